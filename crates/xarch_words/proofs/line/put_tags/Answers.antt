use Rattle.std.proofs.Common.{◌≡◌, ◌<◌, ℕ, List, [], ◌++◌, ◌∙◌, ap, sym, subst, length, get_or, String, Global, string_bytes, codes, rules}
use Rattle.std.proofs.lemmas.List.{length-map, get_or-map}
use Rattle.key_spec.specs.View.{names_view}
use Rattle.xa_outside.specs.Taken.{Takes, TakesPrefix}
use Rattle.xa_outside.specs.TakenLaws.{Takes-nil, Takes-piece, Puts-piece}
use Rattle.xarch_words.proofs.line.put_tags.Goals as goal

-- one tag, behind a slash
abbrev with_slash : List ℕ → List ℕ
with_slash name = codes "/" ++ name

name_at : (tags : List (String Global)) (i : ℕ) (t : String Global) (bytes : List ℕ) → i < length tags → t ≡ get_or tags i t → bytes ≡ string_bytes t → bytes ≡ get_or (names_view tags) i []
name_at tags i t bytes within is e = e ∙ ap string_bytes is ∙ sym (get_or-map string_bytes tags i t [] within)

name_within : (tags : List (String Global)) (i : ℕ) → i < length tags → i < length (names_view tags)
name_within tags i within = simp length-map within

pub loop-tag-init : goal.loop-tag-init
loop-tag-init g c = record { bytes = Takes-nil _; later = search rules }

pub loop-tag-preserved : goal.loop-tag-preserved
loop-tag-preserved g c =
    let name = name_at c.args.tags.now c.loop-tag.tag-index c.tag-item.result c.as_bytes.result.now (search rules) c.tag-item.is c.as_bytes.ensures.value in
    record {
      bytes =
          Takes-piece with_slash _ _ _ (names_view c.args.tags.now) c.loop-tag.tag-index [] (name_within c.args.tags.now c.loop-tag.tag-index (search rules)) c.loop-tag.invariant.bytes
          (subst (λ (l : List ℕ). Takes (g.E.Sink.taken c.loop-tag.err) (g.E.Sink.taken c.put_both.new.err) (with_slash l)) name c.in_ok-put_both.ensures.bytes);
      later = search rules;
    }

pub returns-in_err-put_both-clause-bytes : goal.returns-in_err-put_both-clause-bytes
returns-in_err-put_both-clause-bytes g c =
    let name = name_at c.args.tags.now c.loop-tag.tag-index c.tag-item.result c.as_bytes.result.now (search rules) c.tag-item.is c.as_bytes.ensures.value in
    Puts-piece with_slash _ _ _ c.from_residual.result (names_view c.args.tags.now) c.loop-tag.tag-index [] (name_within c.args.tags.now c.loop-tag.tag-index (search rules)) (search rules) c.loop-tag.invariant.bytes
    (subst (λ (l : List ℕ). TakesPrefix (g.E.Sink.taken c.loop-tag.err) (g.E.Sink.taken c.put_both.new.err) (with_slash l)) name c.in_err-put_both.ensures.bytes)
