use Rattle.std.proofs.Common.{◌≡◌, List, [], ◌∷◌, ◌++◌, length, refl, ap, ◌∙◌, rules}
use Rattle.dnode_tree.specs.declared.writes.BlockWrite.{BlockWrite}
use Rattle.meta_objset.proofs.datasets.writes_of.Goals as goal

pub returns : goal.returns
returns c =
    let write : BlockWrite = record { id = 0; bytes = c.in_ok-bytes.bytes } in
    let long : length c.encode.result ≡ 512 = search rules in
    let all : c.push.new.self.items ≡ write ∷ [] = c.in_ok-push.ensures.items ∙ ap (λ (front : List BlockWrite). front ++ write ∷ []) c.new-writes.ensures.items in
    record {
      write = write;
      only = all;
      first = refl;
      size = ap length c.in_ok-bytes.ensures.items ∙ long;
      spelled = (c.requires, c.in_ok-bytes.ensures.items ∙ c.encode.ensures);
    }
