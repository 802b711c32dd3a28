use Rattle.std.proofs.Common.{◌≡◌, ℕ, ℤ, pos, ◌+ℤ◌, IsTrue, sym, ap, subst, ◌∙◌, to_z, of_z, w64}
use Rattle.std.proofs.lemmas.Int.{to_z-of_z}
use Rattle.version_set.specs.Members.{members, has, IsVersion}
use Rattle.version_set.specs.View.{pairs_of}
use Rattle.record_copy.specs.Raised.{raised}
use Rattle.record_copy.proofs.Raising.{raised-none, raised-of, may-raise}
use Rattle.record_copy.proofs.raise.raise_set.Goals as goal

pub returns-then-raise-eq0 : goal.returns-then-raise-eq0
returns-then-raise-eq0 c = (let ps = pairs_of c.args.set in sym (raised-none ps) ∙ ap (λ (n : ℕ). raised n ps) (sym c.if-raise-eq0.true))

pub shift-requires : goal.shift-requires
shift-requires c =
    let r = c.args.raise.now in
    let set = c.args.set in
    let same : to_z w64 (of_z w64 c.from.result) ≡ pos r.by = to_z-of_z w64 c.from.result (record { sfits = c.from.type_inv }) ∙ c.from.ensures in
    subst (λ (z : ℤ). (n : ℕ) → IsTrue (has (members (pairs_of set)) n) → IsVersion (pos n +ℤ z)) (sym same) (may-raise r.by (pairs_of set) set.canonical r.few c.requires.few)

pub returns : goal.returns
returns c =
    let r = c.args.raise.now in
    let same : to_z w64 (of_z w64 c.from.result) ≡ pos r.by = to_z-of_z w64 c.from.result (record { sfits = c.from.type_inv }) ∙ c.from.ensures in
    raised-of pairs_of c.shift.result (to_z w64 (of_z w64 c.from.result)) r.by (pairs_of c.args.set) same c.shift.ensures.pairs
