-- Which items are actions.
use Rattle.std.specs.Prelude.{Bool, true, false}
use Rattle.pool_model.specs.declared.item.Item.{Item}
use Rattle.pool_model.specs.declared.item.Item.TheVariants.{Write, Action}

-- true for an action, false for a write
abbrev pub is_action_item : Item → Bool
is_action_item (Write w) = false
is_action_item (Action a) = true
