use Rattle.std.proofs.Common.{◌+◌, ◌/◌, ℕ, List, [], ◌∷◌, ◌++◌, length, drop, refl, ap, ◌∙◌}
use Rattle.words.specs.Words.{word_bytes}
use Rattle.object_table.proofs.Seams.{put_over}
use Rattle.object_table.proofs.rows.put_rows.Goals as goal

pub returns : goal.returns
returns c =
    put_over (length c.args.bytes.now) c.args.shape.first_len (word_bytes (length c.args.rows.now / c.args.shape.row_len ∷ [])) c.args.rows.now c.args.bytes.now c.put.new.bytes c.put-2.new.bytes
    refl c.requires.shape.word c.requires.room c.requires.zeros
    (c.put.ensures ∙ ap (λ (word : List ℕ). word ++ drop (0 + length word) c.args.bytes.now) c.to_le_bytes.ensures) c.put-2.ensures
