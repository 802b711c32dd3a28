-- Versions under other keys: how the list grows by one, and what follows of it.
use Rattle.std.proofs.Common.{◌≡◌, ◌<◌, ◌≤◌, ◌+◌, ℕ, zero, suc, List, [], ◌∷◌, ◌++◌, length, take, Option, Some, None, IfSome, inl, inr, refl, sym, ap, subst, ◌∙◌, arith}
use Rattle.std.proofs.lemmas.List.{length-take-le, take_all, take_more}
use Rattle.std.proofs.lemmas.Option.{get_or_from_slice_get, slice_get_within}
use Rattle.std.specs.List.{AllByRecursion, slice_get}
use Rattle.std.specs.Option.{option_map}
use Rattle.jsonml_tree.specs.Data.{PlainTree}
use Rattle.jsonml_text.specs.Texts.{AreTexts}
use Rattle.keyed_tree.specs.Alike.{AllAlike}
use Rattle.keyed_tree.specs.Data.{PlainKeyed}
use Rattle.keyed_tree.specs.Lists.{Has}
use Rattle.keyed_tree.specs.Plain.{plain}
use Rattle.key_spec.specs.Closed.{IsClosed}
use Rattle.key_spec.specs.Data.{PlainRule}
use Rattle.key_rules.specs.Faults.{PlainKeyFault, first_fault}
use Rattle.key_rules.specs.Satisfies.{Satisfies}
use Rattle.key_annotate.specs.Stands.{Stands}
use Rattle.archive_tree.specs.Data.{PlainArchive}
use Rattle.archive_tree.specs.Stands.{ArchiveOf, version_of}
use Rattle.nested_merge.specs.Alike.{AlikeAll}
use Rattle.archive_file.specs.KeyedBy.{AreKeyedBy, IsKeyedBy}
use Rattle.archive_file.proofs.ShapedArchives.{archive-shaped}
use Rattle.record_parts.specs.Bounds.{most}
use Rattle.record_format.specs.Shapes.{IsShaped}
use Rattle.key_annotate.specs.DocumentTexts.{keyed-texts}
use Rattle.archive_rekey.specs.Progress.{IsBehind, IsFaultOf, Reaches}
use Rattle.archive_rekey.specs.Rekeyed.{AreRekeyed, IsArchiveUnder, IsBad, IsFirstBad}

-- ---- the items of a list

pub take-next : (vs : List PlainKeyed) (i : ℕ) (v : PlainKeyed) → slice_get vs i ≡ Some v → take (i + 1) vs ≡ take i vs ++ v ∷ []
take-next vs i v e = take_more vs i v (slice_get_within vs i v e) ∙ ap (λ (x : PlainKeyed). take i vs ++ x ∷ []) (get_or_from_slice_get vs i v v e)

at-number : (vs : List PlainKeyed) (i : ℕ) (v : PlainKeyed) → version_of vs (i + 1) ≡ Some v → slice_get vs i ≡ Some v
at-number vs i v e = (let same : i + 1 ≡ suc i = omega arith in subst (λ n. version_of vs n ≡ Some v) same e)

has-front : (xs : List PlainKeyed) (x v : PlainKeyed) → Has v xs → Has v (xs ++ x ∷ [])
has-front [] x v m = absurd m
has-front (y ∷ ys) x v m = elim m [ inl e ↦ inl e | inr i ↦ inr (has-front ys x v i) ]

has-last : (xs : List PlainKeyed) (x : PlainKeyed) → Has x (xs ++ x ∷ [])
has-last [] x = inl refl
has-last (y ∷ ys) x = inr (has-last ys x)

all-behind : (P : PlainKeyed → Type 0) (xs : List PlainKeyed) (x : PlainKeyed) → AllByRecursion P xs → P x → AllByRecursion P (xs ++ x ∷ [])
all-behind P [] x h p = (p, tt)
all-behind P (y ∷ ys) x h p = (h.0, all-behind P ys x h.1 p)

-- ---- the versions under other keys

pub rekeyed-behind : (rules : List PlainRule) (vs us : List PlainKeyed) (v k : PlainKeyed) → AreRekeyed rules vs us → Stands rules (plain v) k → AreRekeyed rules (vs ++ v ∷ []) (us ++ k ∷ [])
rekeyed-behind rules [] [] v k h s = (s, tt)
rekeyed-behind rules [] (u ∷ us) v k h s = absurd h
rekeyed-behind rules (x ∷ xs) [] v k h s = absurd h
rekeyed-behind rules (x ∷ xs) (u ∷ us) v k h s = (h.0, rekeyed-behind rules xs us v k h.1 s)

pub rekeyed-length : (rules : List PlainRule) (vs us : List PlainKeyed) → AreRekeyed rules vs us → length us ≡ length vs
rekeyed-length rules [] [] h = refl
rekeyed-length rules [] (u ∷ us) h = absurd h
rekeyed-length rules (x ∷ xs) [] h = absurd h
rekeyed-length rules (x ∷ xs) (u ∷ us) h = ap (λ n. suc n) (rekeyed-length rules xs us h.1)

satisfied-at : (rules : List PlainRule) (vs us : List PlainKeyed) (i j : ℕ) (v : PlainKeyed) → AreRekeyed rules (take i vs) us → j < i → slice_get vs j ≡ Some v → Satisfies rules (plain v)
satisfied-at rules [] us i j v h low e = cc
satisfied-at rules (x ∷ xs) us zero j v h low e = absurd (omega (arith, low))
satisfied-at rules (x ∷ xs) [] (suc i) j v h low e = absurd h
satisfied-at rules (x ∷ xs) (u ∷ us) (suc i) zero v h low e = (let same : x ≡ v = cc in subst (λ z. Satisfies rules (plain z)) same h.0.satisfies)
satisfied-at rules (x ∷ xs) (u ∷ us) (suc i) (suc j) v h low e = satisfied-at rules xs us i j v h.1 (omega (arith, low)) e

-- versions before one of them satisfy the rules where the first are there under them
pub satisfied-before : (rules : List PlainRule) (vs us : List PlainKeyed) (i j : ℕ) (v : PlainKeyed) → AreRekeyed rules (take i vs) us → j < i + 1 → version_of vs j ≡ Some v → Satisfies rules (plain v)
satisfied-before rules vs us i zero v h low e = cc
satisfied-before rules vs us i (suc j) v h low e = satisfied-at rules vs us i j v h (omega (arith, low)) e

-- ---- laws

pub one_list : (rules : List PlainRule) (vs us ws : List PlainKeyed) → AreRekeyed rules vs us → AreRekeyed rules vs ws → us ≡ ws
one_list rules [] [] [] h g = refl
one_list rules [] [] (w ∷ ws) h g = absurd g
one_list rules [] (u ∷ us) ws h g = absurd h
one_list rules (v ∷ vs) [] ws h g = absurd h
one_list rules (v ∷ vs) (u ∷ us) [] h g = absurd g
one_list rules (v ∷ vs) (u ∷ us) (w ∷ ws) h g =
    let first : u ≡ w = h.0.tree ∙ sym g.0.tree in
    let rest : us ≡ ws = one_list rules vs us ws h.1 g.1 in
    λ i. first i ∷ rest i

not-bad : (rules : List PlainRule) (vs us : List PlainKeyed) (i : ℕ) (v : PlainKeyed) → AreRekeyed rules vs us → version_of vs i ≡ Some v → Satisfies rules (plain v)
not-bad rules [] us zero v h e = cc
not-bad rules [] us (suc i) v h e = cc
not-bad rules (x ∷ xs) [] i v h e = absurd h
not-bad rules (x ∷ xs) (u ∷ us) zero v h e = cc
not-bad rules (x ∷ xs) (u ∷ us) (suc zero) v h e = (let same : x ≡ v = cc in subst (λ z. Satisfies rules (plain z)) same h.0.satisfies)
not-bad rules (x ∷ xs) (u ∷ us) (suc (suc i)) v h e = not-bad rules xs us (suc i) v h.1 e

pub apart : (rules : List PlainRule) (vs us : List PlainKeyed) (i : ℕ) (f : PlainKeyFault) → AreRekeyed rules vs us → ¬ IsFirstBad rules vs i f
apart rules vs us i f h b = b.here.bad (not-bad rules vs us i b.here.version h b.here.is)

one-place : (rules : List PlainRule) (vs : List PlainKeyed) (i j : ℕ) (f g : PlainKeyFault) → IsFirstBad rules vs i f → IsFirstBad rules vs j g → ¬ (i < j)
one-place rules vs i j f g h k low = h.here.bad (k.before i h.here.version low h.here.is)

one-version : (rules : List PlainRule) (vs : List PlainKeyed) (i j : ℕ) (f g : PlainKeyFault) → i ≡ j → IsBad rules vs i f → IsBad rules vs j g → f ≡ g
one-version rules vs i j f g same h k =
    let first = h.fault in
    let second = k.fault in
    let here = h.is in
    let there = k.is in
    cc (same, first, second, here, there)

pub one_fault : (rules : List PlainRule) (vs : List PlainKeyed) (i j : ℕ) (f g : PlainKeyFault) → IsFirstBad rules vs i f → IsFirstBad rules vs j g → (i ≡ j) × (f ≡ g)
one_fault rules vs i j f g h k =
    let not_less : ¬ (i < j) = one-place rules vs i j f g h k in
    let not_more : ¬ (j < i) = one-place rules vs j i g f k h in
    let same : i ≡ j = grind arith in
    (same, one-version rules vs i j f g same h.here k.here)

-- ---- how far they have come

-- no version
pub reaches-none : (rules : List PlainRule) (vs : List PlainKeyed) (b : PlainArchive) → ArchiveOf [] b → Reaches rules vs 0 b
reaches-none rules vs b h = record { versions = []; are = tt; archive = h; keyed = tt }

-- the version of this number spells this document
record Spells (vs : List PlainKeyed) (i : ℕ) (t : PlainTree) : Type 0 where
  version : PlainKeyed
  is : version_of vs i ≡ Some version
  document : t ≡ plain version

spells : (vs : List PlainKeyed) (i : ℕ) (t : PlainTree) → option_map plain (version_of vs i) ≡ Some t → Spells vs i t
spells vs i t e = go (version_of vs i) refl e
  where
    go : (o : Option PlainKeyed) → version_of vs i ≡ o → option_map plain o ≡ Some t → Spells vs i t
    go None d f = cc
    go (Some v) d f = record { version = v; is = d; document = cc }

-- one version more
pub reaches-next : (rules : List PlainRule) (vs : List PlainKeyed) (i : ℕ) (b d : PlainArchive) (t : PlainTree) → Reaches rules vs i b → option_map plain (version_of vs (i + 1)) ≡ Some t → IsBehind rules t b d
    → Reaches rules vs (i + 1) d
reaches-next rules vs i b d t r spelled h =
    let next = spells vs (i + 1) t spelled in
    let grown = take-next vs i next.version (at-number vs i next.version next.is) in
    let under = subst (λ z. Stands rules z h.tree) next.document h.stands in
    record {
      versions = r.versions ++ h.tree ∷ [];
      are = subst (λ ws. AreRekeyed rules ws (r.versions ++ h.tree ∷ [])) (sym grown) (rekeyed-behind rules (take i vs) r.versions next.version h.tree r.are under);
      archive = h.archive r.versions r.archive;
      keyed = all-behind (IsKeyedBy rules) r.versions h.tree r.keyed h.keyed;
    }

pub reaches-count : (rules : List PlainRule) (vs : List PlainKeyed) (i : ℕ) (b : PlainArchive) → i ≤ length vs → Reaches rules vs i b → b.n ≡ i
reaches-count rules vs i b low r =
    let size : length r.versions ≡ b.n = r.archive.count in
    let same : length r.versions ≡ length (take i vs) = rekeyed-length rules (take i vs) r.versions r.are in
    let taken : length (take i vs) ≡ i = length-take-le i vs low in
    sym size ∙ same ∙ taken

-- there is room for one more
pub room : (rules : List PlainRule) (vs : List PlainKeyed) (i : ℕ) (b : PlainArchive) → i < length vs → i < 4294967295 → Reaches rules vs i b → b.n < 4294967295
room rules vs i b low few r =
    let count : b.n ≡ i = reaches-count rules vs i b (omega (arith, low)) r in
    omega (arith, count, few)

-- it goes with those before it
pub alike : ((rules : List PlainRule) (vs : List PlainKeyed) → AreKeyedBy rules vs → AllAlike vs)
    → (rules : List PlainRule) (us : List PlainKeyed) (k : PlainKeyed) → AreKeyedBy rules us → IsKeyedBy rules k → AlikeAll us k
alike keyed_alike rules us k keyed h v m = keyed_alike rules (us ++ k ∷ []) (all-behind (IsKeyedBy rules) us k keyed h) v k (has-front us k v m) (has-last us k)

-- all of them
pub reaches-all : (rules : List PlainRule) (vs : List PlainKeyed) (i : ℕ) (b : PlainArchive) → length vs ≡ i → Reaches rules vs i b → IsArchiveUnder rules vs b
reaches-all rules vs i b all r = record {
  versions = r.versions;
  are = subst (λ ws. AreRekeyed rules ws r.versions) (take_all i vs (omega (arith, all))) r.are;
  archive = r.archive;
}

pub reaches-keyed : ((vs us : List PlainKeyed) (a : PlainArchive) → ArchiveOf vs a → ArchiveOf us a → vs ≡ us) → (rules : List PlainRule) (vs : List PlainKeyed) (i : ℕ) (b : PlainArchive) → Reaches rules vs i b
    → (us : List PlainKeyed) → ArchiveOf us b → AreKeyedBy rules us
reaches-keyed one_list rules vs i b r us h = subst (AreKeyedBy rules) (one_list r.versions us b r.archive h) r.keyed

-- ---- the first bad one

-- what follows of a fault, where it is that of a version
pub if-some : {X : Type 0} (o : Option X) (P Q : X → Type 0) → ((b : X) → P b → Q b) → IfSome o P → IfSome o Q
if-some None P Q f h = tt
if-some (Some b) P Q f h = f b h

-- the first fault of a document is that of the version that spells it
is-bad : (rules : List PlainRule) (vs : List PlainKeyed) (i : ℕ) (t : PlainTree) (x : ℕ × PlainKeyFault) → option_map plain (version_of vs i) ≡ Some t → IsFaultOf rules i t x → IsBad rules vs x.0 x.1
is-bad rules vs i t x spelled h =
    let here = spells vs i t spelled in
    record {
      version = here.version;
      is = subst (λ n. version_of vs n ≡ Some here.version) (sym h.number) here.is;
      bad = λ s. h.bad (subst (Satisfies rules) (sym here.document) s);
      fault = subst (λ z. first_fault rules z ≡ Some x.1) here.document h.fault;
    }

-- the first one: its number among these, and what it is told by
pub first-bad : (rules : List PlainRule) (vs : List PlainKeyed) (i : ℕ) (b : PlainArchive) (t : PlainTree) (x : ℕ × PlainKeyFault) → Reaches rules vs i b → option_map plain (version_of vs (i + 1)) ≡ Some t → IsFaultOf rules (i + 1) t x
    → IsFirstBad rules vs x.0 x.1
first-bad rules vs i b t x r spelled h = record {
  here = is-bad rules vs (i + 1) t x spelled h;
  before = λ j v low e. satisfied-before rules vs r.versions i j v r.are (subst (λ n. j < n) h.number low) e;
}

-- ---- their shape

texts-under : (rules : List PlainRule) (vs us : List PlainKeyed) → AreRekeyed rules vs us → AllByRecursion (λ v. AreTexts (plain v)) vs → AllByRecursion (λ v. AreTexts (plain v)) us
texts-under rules [] [] h t = tt
texts-under rules [] (k ∷ ks) h t = absurd h
texts-under rules (v ∷ vs) [] h t = absurd h
texts-under rules (v ∷ vs) (k ∷ ks) h t = (let stands = h.0 in (keyed-texts rules (plain v) k t.0 stands.keyed, texts-under rules vs ks h.1 t.1))

pub under-shaped : (rules : List PlainRule) (vs : List PlainKeyed) (a : PlainArchive) → IsClosed rules → AllByRecursion (λ v. AreTexts (plain v)) vs → IsArchiveUnder rules vs a → ((us : List PlainKeyed) → ArchiveOf us a → AreKeyedBy rules us) → a.n ≤ most → IsShaped a
under-shaped rules vs a closed texts under keyed few =
    archive-shaped rules under.versions a closed (keyed under.versions under.archive) (texts-under rules vs under.versions under.are texts) under.archive few
