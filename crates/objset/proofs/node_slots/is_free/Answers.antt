use Rattle.std.proofs.Common.{◌≡◌, ◌↔◌, ◌+◌, ◌-◌, ◌*◌, List, ℕ, length, take, drop, replicate, ap, subst, arith, IsTrue}
use Rattle.std.proofs.lemmas.List.{length-take, length-drop}
use Rattle.objset.specs.Nodes.{slot_of}
use Rattle.objset.proofs.node_slots.is_free.Goals as goal

pub returns : goal.returns
returns c =
    let slot : List ℕ = slot_of c.args.block.now c.args.place in
    let len : length slot ≡ 512 = omega (arith, length-take 512 (drop (512 * c.args.place) c.args.block.now), length-drop (512 * c.args.place) c.args.block.now, c.requires.size, c.requires.place) in
    let size : 512 * c.args.place + 512 - 512 * c.args.place ≡ 512 = omega arith in
    let same : take (512 * c.args.place + 512 - 512 * c.args.place) (drop (512 * c.args.place) c.args.block.now) ≡ slot =
    ap (λ n. take n (drop (512 * c.args.place) c.args.block.now)) size in
    subst (λ n. IsTrue c.is_zero.result ↔ (slot ≡ replicate n 0)) len
    (subst (λ (x : List ℕ). IsTrue c.is_zero.result ↔ (x ≡ replicate (length x) 0)) same c.is_zero.ensures)
