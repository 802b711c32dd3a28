use Rattle.std.proofs.Common.{◌≡◌, ◌<◌, ◌∙◌, length, map, get_or, ap, sym, subst, refl, arith}
use Rattle.std.proofs.lemmas.List.{get_or-map, length-map}
use Rattle.std.proofs.lemmas.Result.{on_ok_weaker}
use Rattle.version_set.specs.Pairs.{last_of}
use Rattle.new_archive.specs.AltView.{alt_view}
use Rattle.new_archive.specs.Full.{FullAlt}
use Rattle.new_archive.specs.Place.{changed}
use Rattle.new_archive.proofs.AltRows.{below_at, set_row}
use Rattle.new_archive.proofs.Covers.{same_kept}
use Rattle.new_archive.proofs.leaf.add_at.Goals as goal

pub add_number-requires : goal.add_number-requires
add_number-requires c =
    let alts = c.args.alts.now in
    let r = c.index-alts-at.result in
    let many : length (map alt_view alts) ≡ length alts = length-map alts alt_view in
    let place = c.requires.place in
    let low : c.args.at < length (map alt_view alts) = omega arith in
    subst (λ (a : FullAlt). last_of a.numbers < c.args.n) (get_or-map alt_view alts c.args.at r (alt_view r) place) (below_at c.args.n (map alt_view alts) c.args.at (alt_view r) c.requires.below low).below

pub returns-clause-is : goal.returns-clause-is
returns-clause-is c =
    let alts = c.args.alts.now in
    let n = c.args.n in
    let at = c.args.at in
    let r = c.index-alts-at.result in
    on_ok_weaker c.add_number.result (λ g. λ d. set_row alt_view alts at _ (changed n (get_or (map alt_view alts) at d)) c.requires.place
    ((λ i. record { numbers = g i; body = (alt_view (get_or alts at r)).body }) ∙ ap (changed n) (sym (get_or-map alt_view alts at r d c.requires.place)))) c.add_number.ensures

pub returns-clause-bodies : goal.returns-clause-bodies
returns-clause-bodies c = same_kept c.args.alts.now c.args.at _ c.index-alts-at.result c.requires.place refl
