-- The columns in the order in which they are read.
use Rattle.std.proofs.Common.{ℕ, zero, suc, ◌≡◌, ◌+◌, ◌-◌, ◌<◌, ◌≤◌, inl, inr, List, [], ◌∷◌, ◌++◌, length, take, drop, sym, ap, subst, ◌∙◌, arith, length-drop}
use Rattle.std.proofs.lemmas.Bool.{cases_lt}
use Rattle.std.proofs.lemmas.List.{take_all}
use Rattle.std.proofs.Math.Seq.{take-append_seam}
use Rattle.model_disk.specs.Joint.{Disks}
use Rattle.raidz_map.specs.declared.column.Column.{Column}
use Rattle.raidz_io.specs.declared.vdev.Vdev.{Vdev}
use Rattle.raidz_io.specs.Reads.{AreRead}
use Rattle.raidz_io.proofs.ReadSteps.{AreRead-none}

pub take_order : (xs ys : List Column) (n : ℕ) → length xs ≤ n → xs ++ take (n - length xs) ys ≡ take n (xs ++ ys)
take_order [] ys n within = let same : n - 0 ≡ n = omega arith in ap (λ m. take m ys) same
take_order (x ∷ xs) ys zero within = absurd (omega arith)
take_order (x ∷ xs) ys (suc n) within =
    let same : suc n - suc (length xs) ≡ n - length xs = omega arith in
    ap (λ m. x ∷ (xs ++ take m ys)) same ∙ ap (λ zs. x ∷ zs) (take_order xs ys n (omega arith))

-- nothing is read yet
pub none_read : (old : Disks) (vdev : Vdev) (missing bytes lost : List ℕ) → bytes ≡ [] → lost ≡ [] → AreRead old old vdev missing [] bytes lost
none_read old vdev missing bytes lost no_bytes none =
    let P : List ℕ → Type 0 = λ bs. AreRead old old vdev missing [] bs lost in
    let Q : List ℕ → Type 0 = λ ls. AreRead old old vdev missing [] [] ls in
    subst P (sym no_bytes) (subst Q (sym none) (AreRead-none old vdev missing))

-- the data comes first
pub take_data : (layout : List Column) (p n : ℕ) → n + p ≡ length layout → take n (drop p layout ++ take p layout) ≡ drop p layout
take_data layout p n count =
    let long : length (drop p layout) ≡ n = omega (arith, length-drop p layout, count) in
    ap (λ m. take m (drop p layout ++ take p layout)) (sym long) ∙ take-append_seam (drop p layout) (take p layout)

-- the data is read
pub data_read : (old mid : Disks) (vdev : Vdev) (missing bytes lost : List ℕ) (layout back : List Column) (p count start : ℕ) → start ≡ 0
    → back ≡ drop p layout → count ≡ length back → count + p ≡ length layout
    → AreRead old mid vdev missing ([] ++ take (count - start) back) bytes lost
    → AreRead old mid vdev missing (take count (drop p layout ++ take p layout)) bytes lost
data_read old mid vdev missing bytes lost layout back p count start none is all total read =
    let P : List Column → Type 0 = λ cs. AreRead old mid vdev missing cs bytes lost in
    let whole : [] ++ take (count - start) back ≡ back = take_all (count - start) back (omega (arith, none, all)) in
    subst P (whole ∙ is ∙ sym (take_data layout p count total)) read

-- what was read of the data
pub data_was_read : (old mid : Disks) (vdev : Vdev) (missing bytes lost : List ℕ) (layout : List Column) (p n : ℕ) → n + p ≡ length layout
    → AreRead old mid vdev missing (take n (drop p layout ++ take p layout)) bytes lost → AreRead old mid vdev missing (drop p layout) bytes lost
data_was_read old mid vdev missing bytes lost layout p n count read =
    let P : List Column → Type 0 = λ cs. AreRead old mid vdev missing cs bytes lost in
    subst P (take_data layout p n count) read

-- and some of the parity
pub some_read : (old new : Disks) (vdev : Vdev) (missing bytes lost : List ℕ) (layout front : List Column) (p n count : ℕ)
    → front ≡ take p layout → n + p ≡ length layout → n ≤ count
    → AreRead old new vdev missing (drop p layout ++ take (count - n) front) bytes lost
    → AreRead old new vdev missing (take count (drop p layout ++ take p layout)) bytes lost
some_read old new vdev missing bytes lost layout front p n count front_is total more read =
    let P : List Column → Type 0 = λ cs. AreRead old new vdev missing cs bytes lost in
    let Q : List Column → Type 0 = λ cs. AreRead old new vdev missing (take count (drop p layout ++ cs)) bytes lost in
    let long : n ≡ length (drop p layout) = omega (arith, length-drop p layout, total) in
    let same : drop p layout ++ take (count - n) front ≡ take count (drop p layout ++ front) =
    ap (λ m. drop p layout ++ take (count - m) front) long ∙ take_order (drop p layout) front count (omega (arith, long, more)) in
    subst Q front_is (subst P same read)

-- reads do not end before all data is read
pub all_data : (count start n lost : ℕ) → start ≡ 0 → count ≤ start + n → (count < start + n → n + lost ≤ count) → count ≡ n
all_data count start n lost none most ended =
    elim (cases_lt count (start + n)) [ inl fewer ↦ absurd (omega (arith, ended fewer, fewer, none)) | inr all ↦ omega (arith, none) ]
