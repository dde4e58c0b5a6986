-- Ids, and items of those among them that are not left out.
use Rattle.std.specs.Prelude.{ℕ, ◌≡◌, ◌⊎◌, List, [], ◌∷◌}

-- In order, each of the ids that is not left out has an item, and R holds of the two.
abbrev pub HaveInTurn : {X : Type 0} → (ℕ → Type 0) → (ℕ → X → Type 0) → List ℕ → List X → Type 0
HaveInTurn IsOut R [] items = items ≡ []
HaveInTurn {X} IsOut R (id ∷ ids) items =
    (IsOut id × HaveInTurn IsOut R ids items)
    ⊎ ((¬ IsOut id) × (item : X) × (rest : List X) × (items ≡ item ∷ rest) × R id item
    × HaveInTurn IsOut R ids rest)
