use Rattle.std.proofs.Common.{◌≡◌, ◌+◌, ◌*◌, ◌-◌, ◌≤◌, ◌∙◌, ℕ, List, inl, inr, length, take, drop, subst, arith, length-take, length-drop}
use Rattle.std.proofs.lemmas.Bool.{cases_lt}
use Rattle.objset.proofs.SlotBytes.{put_here, put_before, put_behind}
use borrow.Rule.Slice.PartMut.{put_mid}
use Rattle.objset.proofs.node_slots.put_node.Goals as goal

pub returns-clause-here : goal.returns-clause-here
returns-clause-here c =
    let at : ℕ = 512 * c.args.place in
    let old : List ℕ = c.args.block.now in
    let field : List ℕ = c.copy_from_slice.new.self in
    let k : ℕ = 512 * c.args.place + 512 - 512 * c.args.place in
    let size : k ≡ 512 = omega arith in
    let sized : length field ≡ k =
    omega (arith, c.copy_from_slice.ensures.len, length-take k (drop at old), length-drop at old, c.requires.size, c.requires.place) in
    let room : at + k ≤ length old = omega (arith, c.requires.size, c.requires.place) in
    subst (λ n. take n (drop at (put_mid at k old field)) ≡ field) size (put_here old field at k room sized)
    ∙ c.copy_from_slice.ensures.after ∙ c.encode.ensures

pub returns-clause-others : goal.returns-clause-others
returns-clause-others c = λ other ne.
    let at : ℕ = 512 * c.args.place in
    let old : List ℕ = c.args.block.now in
    let field : List ℕ = c.copy_from_slice.new.self in
    let k : ℕ = 512 * c.args.place + 512 - 512 * c.args.place in
    let sized : length field ≡ k =
    omega (arith, c.copy_from_slice.ensures.len, length-take k (drop at old), length-drop at old, c.requires.size, c.requires.place) in
    let room : at + k ≤ length old = omega (arith, c.requires.size, c.requires.place) in
    elim (cases_lt other c.args.place) [
      | inl sooner ↦ put_before old field at k room sized (512 * other) 512 (omega (arith, sooner))
      | inr later ↦ put_behind old field at k room sized (512 * other) 512 (omega (arith, later, ne))
    ]
