-- The programs that tables of words say.
use Rattle.std.specs.Prelude.{List, map}
use Rattle.clap.specs.Words.{App, Rule, Text}
use Rattle.pool_command.specs.declared.arguments.PlaceKind.{PlaceKind}
use Rattle.pool_command.specs.declared.arguments.PlaceKind.TheVariants.{Number, GivenNumber, NumberOr, Flag, Letters, Word, Files}
use Rattle.pool_command.specs.declared.arguments.Place.{Place}
use Rattle.pool_command.specs.declared.arguments.CommandTable.{CommandTable}
use Rattle.pool_command.specs.declared.arguments.ProgramTable.{ProgramTable}
use Rattle.pool_command.specs.Words.{given_rule, number_rule, default_rule, flag_rule, text_rule, word_rule, many_rule, leaf_app, program_app}

-- the rule by which an option or a place of this name and kind is read
abbrev pub kind_rule : Text → PlaceKind → Rule
kind_rule name Number = number_rule name
kind_rule name GivenNumber = given_rule name
kind_rule name (NumberOr default) = default_rule name default.now
kind_rule name Flag = flag_rule name
kind_rule name (Letters shown) = text_rule name
kind_rule name (Word shown) = word_rule name
kind_rule name Files = many_rule name

-- the rule by which an option or a place of a table is read
abbrev pub place_rule : Place → Rule
place_rule place = kind_rule place.name.now place.kind

-- the command that a table describes, with its options and places in order
abbrev pub command_app : CommandTable → App
command_app table = leaf_app table.name.now (map place_rule table.places.now)

-- the program that a table describes, with its commands in order
abbrev pub app_of_table : ProgramTable → App
app_of_table table = program_app table.name.now (map (λ command. (command_app command).top) table.commands.now)
