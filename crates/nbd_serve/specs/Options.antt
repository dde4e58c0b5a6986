-- NBD protocol, "Option types": how the options of a client are answered, and where they lead.
use Rattle.std.specs.Prelude.{◌≡◌, ◌||◌, ℕ, Bool, true, false, List, [], ◌++◌, length, replicate, Option, Some, None, nat_le, if◌then◌else◌}
use Rattle.std.specs.Int.{w32, to_be_bytes}
use Rattle.nbd_wire.specs.Options.{SpellsInfoRequest, option_head_bytes, option_kind_of}
use Rattle.nbd_wire.specs.Replies.{block_size_info_bytes, export_bytes, export_info_bytes, option_reply_bytes}
use Rattle.nbd_wire.specs.declared.options.OptionKind.{OptionKind}
use Rattle.nbd_wire.specs.declared.options.OptionKind.TheVariants.{Abort, ExportName, Go, Info, List as ListExports}
use Rattle.nbd_wire.specs.declared.replies.OptionReply.{OptionReply}
use Rattle.nbd_wire.specs.declared.replies.OptionReply.TheVariants as reply
use Rattle.pool_model.specs.Names.{same}
use Rattle.nbd_serve.specs.declared.course.Course.{Course}
use Rattle.nbd_serve.specs.declared.course.Course.TheVariants.{Agreed, GoesOn, Left}
use Rattle.nbd_serve.specs.declared.course.Wish.{Wish}
use Rattle.nbd_serve.specs.declared.course.Wish.TheVariants.{Broken, Known, Unknown}
use Rattle.nbd_serve.specs.declared.export.Export.{Export}
use Rattle.nbd_serve.specs.declared.options.Dealt.{Dealt}

-- an option of a client with its data, and its answer
pub record Dealing : Type 0 where
  pub option : ℕ
  pub content : List ℕ
  pub answer : List ℕ

-- the option with these data, and what it is answered
abbrev pub dealing : ℕ → List ℕ → Dealt → Dealing
dealing option content dealt = record { option = option; content = content; answer = dealt.answer.items }

-- what the client sends of it
abbrev pub optioned : ℕ → List ℕ → List ℕ
optioned option content = option_head_bytes (record { option = option; len = length content }) ++ content

-- what the client sends of an option: its head and its data
abbrev pub wished : Dealing → List ℕ
wished d = optioned d.option d.content

-- what the option is answered
abbrev pub answered : Dealing → List ℕ
answered d = d.answer

-- the name of the export, or the empty one of the default export
abbrev pub is_known : Export → List ℕ → Bool
is_known export name = same name [] || same name export.name

-- what the data of INFO or GO ask for
abbrev pub IsWish : Export → List ℕ → Wish → Type 0
IsWish export content Known = (name : List ℕ) × SpellsInfoRequest content name × (is_known export name ≡ true)
IsWish export content Unknown = (name : List ℕ) × SpellsInfoRequest content name × (is_known export name ≡ false)
IsWish export content Broken = (name : List ℕ) → ¬ SpellsInfoRequest content name

-- a reply with its data
abbrev pub replying : ℕ → OptionReply → List ℕ → List ℕ
replying option kind content = option_reply_bytes option kind (length content) ++ content

-- both pieces of information and ACK; or an error
abbrev pub info_answer : Export → ℕ → Wish → List ℕ
info_answer export option Known =
    (replying option reply.Info (export_info_bytes export.size export.read_only) ++ replying option reply.Info block_size_info_bytes) ++ replying option reply.Ack []
info_answer export option Unknown = replying option reply.Unknown []
info_answer export option Broken = replying option reply.Invalid []

-- the name behind its length, and ACK; a name of more than 4,096 bytes can't be told
abbrev pub list_answer : Export → ℕ → List ℕ → List ℕ
list_answer export option [] =
    if nat_le (length export.name) 4096 then replying option reply.Server (to_be_bytes w32 (length export.name) ++ export.name) ++ replying option reply.Ack []
    else replying option reply.TooBig []
list_answer export option content = replying option reply.Invalid []

-- the size and the flags, and zeros unless both sides agreed to leave them out
abbrev pub export_answer : Export → Bool → List ℕ
export_answer export no_zeroes = export_bytes export.size export.read_only ++ (if no_zeroes then [] else replicate 124 0)

-- the transmission begins where the export is known
abbrev pub go_course : Wish → Course
go_course Known = Agreed
go_course other = GoesOn

-- an option of this kind, or an unknown one, has this answer, and leads there
abbrev pub IsDealtAs : Export → Bool → Dealing → Course → Option OptionKind → Type 0
IsDealtAs export no_zeroes d course (Some ExportName) = (is_known export d.content ≡ true) × (d.answer ≡ export_answer export no_zeroes) × (course ≡ Agreed)
IsDealtAs export no_zeroes d course (Some Abort) = (d.answer ≡ replying d.option reply.Ack []) × (course ≡ Left)
IsDealtAs export no_zeroes d course (Some ListExports) = (d.answer ≡ list_answer export d.option d.content) × (course ≡ GoesOn)
IsDealtAs export no_zeroes d course (Some Info) = (wish : Wish) × IsWish export d.content wish × (d.answer ≡ info_answer export d.option wish) × (course ≡ GoesOn)
IsDealtAs export no_zeroes d course (Some Go) = (wish : Wish) × IsWish export d.content wish × (d.answer ≡ info_answer export d.option wish) × (course ≡ go_course wish)
IsDealtAs export no_zeroes d course None = (d.answer ≡ replying d.option reply.Unsupported []) × (course ≡ GoesOn)

-- the option has this answer, and leads there
abbrev pub IsDealt : Export → Bool → Dealing → Course → Type 0
IsDealt export no_zeroes d course = IsDealtAs export no_zeroes d course (option_kind_of d.option)
