-- Where a printer stands among the calls for a node.
use Rattle.std.proofs.Common.{◌≡◌, ℕ, ◌+◌, ◌≤◌, ◌==◌, ◌&&◌, Bool, true, false, List, refl, sym, ap, subst, arith}
use Rattle.std.proofs.lemmas.Bool.Decides.{nat_tests}
use Rattle.jsonml_tree.specs.Data.{PlainAttr}
use Rattle.jsonml_print.specs.Calls.{attribute, begin, end, after, MayCome}
use Rattle.jsonml_print.specs.Pen.{Pen, is_item, one_more, one_less}
use Rattle.record_parts.specs.declared.limits.TheConstants.{DEEPEST}
use Rattle.file_get.specs.Walks.{IsBegun, StandsIn}

-- where an element was begun, an attribute may come
pub begun-stands : (depth : ℕ) (p : Pen) → depth ≤ DEEPEST → IsBegun depth p → StandsIn (depth + 1) false p
begun-stands depth p few h = subst (λ (q : Pen). StandsIn (depth + 1) false q) (sym h.2) (record { count = more h.0 h.1; item = λ e. refl; attribute = λ a b. refl })
  where
    more : (d : ℕ) → depth ≤ d → depth + 1 ≤ one_more d
    more d le = grind (arith, nat_tests)

pub begun-of : (depth : ℕ) (has_item : Bool) (p : Pen) (tag : List ℕ) → StandsIn depth has_item p → IsBegun depth (after p (begin tag))
begun-of depth has_item p tag h = (p.depth, h.count, refl)

-- an element may begin inside another one, and outside where none was printed
pub may-begin : (depth : ℕ) (has_item : Bool) (p : Pen) (tag : List ℕ) → StandsIn depth has_item p → ((depth == 0) && has_item) ≡ false → MayCome p (begin tag)
may-begin depth true p tag h e =
    let count = h.count in
    let some : (p.depth == 0) ≡ false = grind (arith, nat_tests) in
    ap (λ (b : Bool). b && is_item p.last) some
may-begin depth false p tag h e = ends (p.depth == 0) (is_item p.last) (h.item refl)
  where
    ends : (a b : Bool) → b ≡ false → (a && b) ≡ false
    ends true b e = e
    ends false b e = refl

-- an element was printed
pub stands-ended : (depth : ℕ) (p q : Pen) → depth ≤ DEEPEST → depth + 1 ≤ p.depth → q ≡ after p end → StandsIn depth true q
stands-ended depth p q few more e = (
    let same : q.depth ≡ one_less p.depth = ap (λ (r : Pen). r.depth) e in
    record {
      count = grind (arith, nat_tests);
      item = λ h. absurd cc;
      attribute = λ a h. absurd cc;
    })

-- an attribute was printed
pub stands-attribute : (depth : ℕ) (p q : Pen) (x : PlainAttr) → StandsIn depth false p → q ≡ after p (attribute x) → StandsIn depth false q
stands-attribute depth p q x h e = subst (λ (r : Pen). StandsIn depth false r) (sym e) (record { count = h.count; item = λ e. refl; attribute = λ a b. refl })
