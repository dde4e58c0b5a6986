-- Lists with one more at the end.
use Rattle.std.proofs.Common.{◌≡◌, ℕ, ◌+◌, ◌<◌, List, [], ◌∷◌, ◌++◌, length, map, take, get_or, All, sym, ap, subst, ◌∙◌}
use Rattle.std.proofs.lemmas.List.{map-append, take_more}
use Rattle.std.proofs.lemmas.List.Elements.{All-push}

pub all_more : {X : Type 0} (P : X → Type 0) (xs new : List X) (x : X) → new ≡ xs ++ x ∷ [] → All P xs → P x → All P new
all_more P xs new x more all here = subst (All P) (sym more) (All-push P xs x all here)

pub mapped_more : {X Y : Type 0} (f : X → Y) (xs new : List X) (x : X) (ys : List Y) (i : ℕ) (d : Y) → new ≡ xs ++ x ∷ [] → f x ≡ get_or ys i d → i < length ys
    → map f xs ≡ take i ys → map f new ≡ take (i + 1) ys
mapped_more f xs new x ys i d more is lt so_far =
    ap (map f) more ∙ (map-append f xs (x ∷ []) ∙ (ap (λ front. front ++ f x ∷ []) so_far ∙ (ap (λ y. take i ys ++ y ∷ []) is ∙ sym (take_more ys i d lt))))
