-- The members of an object, one after the other.
use Rattle.std.proofs.Common.{◌≡◌, ℕ, ◌+◌, ◌<◌, ◌≤◌, List, [], length, Ok, refl, sym, ap, ◌∙◌, subst, arith}
use Rattle.json.specs.Lex.{after_value, comma, token}
use Rattle.json.specs.Token.{Token, begin_object, end_object}
use Rattle.serde_json.specs.Data.{Members, no_members, put}
use Rattle.jsonml_tree.specs.Data.{PlainAttr}
use Rattle.jsonml_text.specs.Kept.{AreAttrsKept}
use Rattle.jsonml_text.specs.Spelled.{attrs_at}
use Rattle.jsonml_text.specs.Objects.{PutsMember, ReadsObject}
use Rattle.jsonml_text.specs.Straight.{lexemes, tokens_from, HasLexeme, HasAttrs, put_attr}
use Rattle.jsonml_text.proofs.Straightness.{HasMembers, attrs_at-put, AreAttrsKept-put, HasAttrs-none, HasAttrs-members, HasMembers-more, HasMembers-end, comma_passed, brace_passed}

none_kept : AreAttrsKept []
none_kept = record { ascending = refl; in_range = refl; texts = tt }

-- some members of an object, up to an offset: what is left of it decides
pub record HasPut (text : List ℕ) (at : ℕ) (xs : List PlainAttr) (end : ℕ) : Type 0 where
  pub reads : (depth : ℕ) → (before : Members) × ((place : List ℕ) → attrs_at place before ≡ Ok xs) × ((ys : List PlainAttr) (rest : List Token) → HasMembers depth text end before ys rest → HasAttrs (depth + 1) text at ys rest)
  pub kept : AreAttrsKept xs
  pub later : at < end
  pub within : end ≤ length text

pub HasPut-first : (d : List ℕ) (at begun : ℕ) (old new : List PlainAttr) (next : ℕ) → HasLexeme d at (token begin_object) (at + 1) → lexemes d begun ≡ lexemes d (at + 1) → at + 1 ≤ begun → old ≡ [] → PutsMember d begun old new next → HasPut d at new next
HasPut-first d at begun old new next h same le none puts =
    let x = puts.attr in
    let m = puts.reads.member in
    let s = m.scalar in
    let one : new ≡ put_attr x [] = puts.placed ∙ ap (put_attr x) none in
    record {
      reads = λ depth. (
        put x.name s.value no_members,
        λ place. attrs_at-put place x.name s.value x.value no_members [] (s.spells place) refl ∙ ap Ok (sym one),
        λ ys rest more. HasAttrs-members (depth + 1) depth d at (at + 1) begun x.name m.begun x.value next ys rest refl h same m.key s more,
      );
      kept = subst AreAttrsKept (sym one) (AreAttrsKept-put x [] puts.reads.in_range m.key.utf8 s.utf8 none_kept);
      later = omega (arith, m.key.later, s.later);
      within = s.within;
    }

pub HasPut-more : (d : List ℕ) (at : ℕ) (old new : List PlainAttr) (end mid next : ℕ) → HasPut d at old end → HasLexeme d end comma (end + 1) → lexemes d mid ≡ lexemes d (end + 1) → end + 1 ≤ mid → PutsMember d mid old new next → HasPut d at new next
HasPut-more d at old new end mid next h sign same le puts =
    let x = puts.attr in
    let m = puts.reads.member in
    let s = m.scalar in
    record {
      reads = λ depth.
          let o = h.reads depth in (
            put x.name s.value o.0,
            λ place. attrs_at-put place x.name s.value x.value o.0 old (s.spells place) (o.1 place) ∙ ap Ok (sym puts.placed),
            λ ys rest more. o.2 ys rest (HasMembers-more depth d end mid x.name m.begun x.value next o.0 ys rest (comma_passed d end mid sign same) m.key s more),
          );
      kept = subst AreAttrsKept (sym puts.placed) (AreAttrsKept-put x old puts.reads.in_range m.key.utf8 s.utf8 h.kept);
      later = omega (arith, m.key.later, s.later, h.later);
      within = s.within;
    }

pub ReadsObject-end : (d : List ℕ) (at : ℕ) (xs : List PlainAttr) (end : ℕ) → HasPut d at xs end → HasLexeme d end (token end_object) (end + 1) → ReadsObject d at xs (end + 1)
ReadsObject-end d at xs end h close =
    record {
      attrs = λ depth.
          let o = h.reads depth in
          let rest = tokens_from after_value d (end + 1) in
          o.2 xs rest (HasMembers-end depth d end o.0 xs rest o.1 (brace_passed d end close));
      kept = h.kept;
      later = omega (arith, h.later);
      within = close.within;
    }

pub ReadsObject-none : (d : List ℕ) (at begun : ℕ) (xs : List PlainAttr) → HasLexeme d at (token begin_object) (at + 1) → lexemes d begun ≡ lexemes d (at + 1) → at + 1 ≤ begun → HasLexeme d begun (token end_object) (begun + 1) → xs ≡ [] → ReadsObject d at xs (begun + 1)
ReadsObject-none d at begun xs h same le close none =
    subst (λ (ys : List PlainAttr). ReadsObject d at ys (begun + 1)) (sym none) (record {
      attrs = λ depth. HasAttrs-none (depth + 1) depth d at (at + 1) begun (begun + 1) refl h same close;
      kept = none_kept;
      later = omega arith;
      within = close.within;
    })
