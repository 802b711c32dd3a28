use Rattle.std.proofs.Common.{◌≡◌, ◌<◌, ℕ, true, IfOk, List, length, get_or, ap, refl, sym, subst, ◌∙◌}
use Rattle.std.specs.List.{AllByRecursion}
use Rattle.version_set.specs.View.{pairs_of}
use Rattle.keyed_tree.specs.Data.{PlainKey}
use Rattle.archive_tree.specs.View.{stamp_view}
use Rattle.record_copy.specs.Parts.{alternative_view}
use Rattle.record_copy.specs.Reads.{IsShortAlternative}
use Rattle.record_copy.specs.Short.{IsRaisedOf}
use Rattle.archive_join.specs.Held.{Ascend, placed, shown}
use Rattle.archive_join.specs.Joined.{alone, paired}
use Rattle.archive_join.specs.declared.held.Entry.{Entry}
use Rattle.archive_join.proofs.Holding.{all_kept, held_at, holds_found, holds_missing, if_made, on_ok, stamp_found, stamp_missing}
use Rattle.archive_join.proofs.SetLaws.{alone_made, paired_made}
use Rattle.archive_join.proofs.held.Held.stamp_with.Goals as goal

-- it stands there, with the body
abbrev Found : PlainKey → ℕ → List Entry → Type 0
Found b at es = (at < length es) × ((d : Entry) → (shown (get_or es at d)).body ≡ b)

abbrev Missing : PlainKey → List Entry → Type 0
Missing b es = AllByRecursion (λ e. (shown e).body ≡ b → ⊥) es

pub returns-in-Some-clause-stamp : goal.returns-in-Some-clause-stamp
returns-in-Some-clause-stamp c ys taken holds differ =
    let x = alternative_view c.args.alternative.now in
    let p = pairs_of c.args.own.now.one in
    let q = pairs_of c.args.own.now.two in
    let at = c.in-Some.at in
    let e = c.index_mut-entry.result.now in
    let found = subst (Found x.body at) c.deref.ensures.value c.in-Some.ensures.found in
    let is = ap (λ (z : Entry). paired p q x.stamp (shown z).stamp) c.index_mut-entry.ensures.value ∙ sym (stamp_found ys taken c.args.self.now holds differ x.body p q x.stamp at e found.0 (found.1 e)) in
    subst (λ z. IfOk c.paired_stamp.result (λ v. stamp_view v ≡ z)) is c.paired_stamp.ensures

pub returns-in-Some-clause-taken : goal.returns-in-Some-clause-taken
returns-in-Some-clause-taken c ys taken holds differ =
    let x = alternative_view c.args.alternative.now in
    let at = c.in-Some.at in
    let e = c.index_mut-entry.result.now in
    let found = subst (Found x.body at) c.deref.ensures.value c.in-Some.ensures.found in
    on_ok c.paired_stamp.result _ (holds_found ys taken c.args.self.now holds differ x.body _ (record { at = e.at; taken = true; alternative = e.alternative }) at e found.0 (found.1 e) refl (ap placed c.index_mut-entry.ensures.value) refl)

pub returns-in-Some-clause-short : goal.returns-in-Some-clause-short
returns-in-Some-clause-short c b n one two short own =
    let x = alternative_view c.args.alternative.now in
    let p = pairs_of c.args.own.now.one in
    let q = pairs_of c.args.own.now.two in
    let at = c.in-Some.at in
    let e = c.index_mut-entry.result.now in
    let es = c.args.self.now.entries.items in
    let found = subst (Found x.body at) c.deref.ensures.value c.in-Some.ensures.found in
    let there = subst (λ (z : Entry). IsShortAlternative (IsRaisedOf b n) b (shown z)) (sym c.index_mut-entry.ensures.value) (held_at (IsShortAlternative (IsRaisedOf b n) b) es at e found.0 short) in (
      if_made b n c.paired_stamp.result (paired p q x.stamp (shown e).stamp) c.paired_stamp.ensures (paired_made b n p q x.stamp (shown e).stamp one two own.stamp there.stamp),
      all_kept (IsShortAlternative (IsRaisedOf b n) b) es _ (record { at = e.at; taken = true; alternative = e.alternative }) at e refl (ap placed c.index_mut-entry.ensures.value) short,
    )

pub returns-in-None-clause-stamp : goal.returns-in-None-clause-stamp
returns-in-None-clause-stamp c ys taken holds differ =
    let x = alternative_view c.args.alternative.now in
    let p = pairs_of c.args.own.now.one in
    let q = pairs_of c.args.own.now.two in
    let none = subst (Missing x.body) c.deref.ensures.value (c.place_of.ensures.missing (subst Ascend (sym c.deref.ensures.value) holds.in_order) c.in-None.is) in
    subst (λ z. IfOk c.alone_stamp.result (λ v. stamp_view v ≡ z)) (sym (stamp_missing ys taken c.args.self.now holds differ x.body p q x.stamp none)) c.alone_stamp.ensures

pub returns-in-None-clause-taken : goal.returns-in-None-clause-taken
returns-in-None-clause-taken c ys taken holds differ =
    let x = alternative_view c.args.alternative.now in
    let none = subst (Missing x.body) c.deref.ensures.value (c.place_of.ensures.missing (subst Ascend (sym c.deref.ensures.value) holds.in_order) c.in-None.is) in
    on_ok c.alone_stamp.result _ (holds_missing ys taken c.args.self.now holds differ x.body none)

pub returns-in-None-clause-short : goal.returns-in-None-clause-short
returns-in-None-clause-short c b n one two short own =
    let x = alternative_view c.args.alternative.now in
    let p = pairs_of c.args.own.now.one in
    let q = pairs_of c.args.own.now.two in
    (if_made b n c.alone_stamp.result (alone p q x.stamp) c.alone_stamp.ensures (alone_made b n p q x.stamp one own.stamp), short)
