-- Commands as they grow, an argument or a command at a time.
use Rattle.std.proofs.Common.{◌≡◌, ◌∙◌, ◌<◌, ◌+◌, ◌++◌, ℕ, List, [], ◌∷◌, map, take, length, get_or, subst, sym, refl, ap}
use Rattle.std.proofs.lemmas.List.{map_push, take_more}
use Rattle.clap.specs.Words.{App, Rule, Shape, Text, with_rule, with_subcommand}
use Rattle.clap.specs.declared.builder.command.Command.{Command}
use Rattle.pool_command.specs.declared.arguments.Place.{Place}
use Rattle.pool_command.specs.declared.arguments.CommandTable.{CommandTable}
use Rattle.pool_command.specs.Words.{IsOfApp, leaf_app, program_app}
use Rattle.pool_command.specs.Tabled.{command_app, place_rule}

abbrev rules_of : List Place → List Rule
rules_of places = map place_rule places

-- one argument more
pub more : (name : Text) (places : List Place) (i : ℕ) (p : Place) (r : Rule) (c d : Command) → i < length places → r ≡ place_rule (get_or places i p)
    → IsOfApp (leaf_app name (rules_of (take i places))) c → ((app : App) → IsOfApp app c → IsOfApp (with_rule app r) d)
    → IsOfApp (leaf_app name (rules_of (take (i + 1) places))) d
more name places i p r c d l e h f =
    let grown : rules_of (take (i + 1) places) ≡ rules_of (take i places) ++ r ∷ [] =
    ap rules_of (take_more places i p l) ∙ map_push place_rule (take i places) (get_or places i p)
    ∙ ap (λ (x : Rule). rules_of (take i places) ++ x ∷ []) (sym e) in
    subst (λ (rules : List Rule). IsOfApp (leaf_app name rules) d) (sym grown) (f (leaf_app name (rules_of (take i places))) h)

abbrev top_of : CommandTable → Shape
top_of table = (command_app table).top

abbrev tops_of : List CommandTable → List Shape
tops_of tables = map top_of tables

-- a program with a command more is no leaf
grows : (name : Text) (subs : List Shape) (s : Shape) → with_subcommand (program_app name subs) s ≡ program_app name (subs ++ s ∷ [])
grows name [] s = refl
grows name (x ∷ subs) s = refl

-- one command more
pub more_above : (name : Text) (tables : List CommandTable) (i : ℕ) (t : CommandTable) (c b d : Command) → i < length tables
    → IsOfApp (program_app name (tops_of (take i tables))) c → IsOfApp (command_app (get_or tables i t)) b
    → ((app sub : App) → IsOfApp app c → IsOfApp sub b → IsOfApp (with_subcommand app sub.top) d)
    → IsOfApp (program_app name (tops_of (take (i + 1) tables))) d
more_above name tables i t c b d l h k f =
    let that : CommandTable = get_or tables i t in
    let grown : tops_of (take (i + 1) tables) ≡ tops_of (take i tables) ++ top_of that ∷ [] =
    ap tops_of (take_more tables i t l) ∙ map_push top_of (take i tables) that in
    let app : with_subcommand (program_app name (tops_of (take i tables))) (top_of that) ≡ program_app name (tops_of (take (i + 1) tables)) =
    grows name (tops_of (take i tables)) (top_of that) ∙ ap (program_app name) (sym grown) in
    subst (λ (a : App). IsOfApp a d) app (f (program_app name (tops_of (take i tables))) (command_app that) h k)
