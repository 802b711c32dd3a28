-- Trees that wait for the end of the element around them.
use Rattle.std.proofs.Common.{◌≡◌, ℕ, ◌+◌, ◌-◌, ◌<◌, ◌≤◌, IsTrue, List, [], ◌∷◌, ◌++◌, length, drop, take, map, refl, sym, ap, ◌∙◌, subst, arith, append_assoc}
use Rattle.std.proofs.lemmas.List.{map-append, length-map, drop_at, take_at}
use Rattle.json.specs.Lex.{after_value, comma, token}
use Rattle.json.specs.Token.{Token, end_array, begin_array}
use Rattle.jsonml_tree.specs.Data.{PlainAttr, PlainTree, text, element, PlainContent, content, PlainTrees, no_trees, tree, trees_of, tree_depth, content_depth, trees_depth}
use Rattle.jsonml_tree.specs.Fits.{all_items_fit}
use Rattle.jsonml_tree.specs.LentView.{only_text, lent_tree_view}
use Rattle.jsonml_tree.specs.WellFormed.{are_well_formed}
use Rattle.jsonml_tree.specs.declared.lent.LentTree.{LentTree}
use Rattle.jsonml_text.specs.Kept.{IsKept, IsContentKept}
use Rattle.jsonml_text.specs.Straight.{lexemes, tokens_from, HasLexeme, HasString, HasTree, HasItems, HasContent, HasAttrs}
use Rattle.jsonml_text.specs.Objects.{ReadsObject, ReadsAlone, ReadsFront}
use Rattle.jsonml_text.specs.Pushed.{depth_of, ReadsTree, ReadsContent, ReadsItems}
use Rattle.jsonml_text.specs.Texts.{AreTexts, AreContentTexts, AreItemTexts}
use Rattle.jsonml_text.proofs.Keeping.{well_formed_push, fit_push, IsContentKept-parts}
use Rattle.jsonml_text.proofs.Straightness.{HasTree-text, HasTree-element, HasItems-more, HasItems-end, HasContent-items, HasContent-attrs, comma_passed, bracket_passed}

-- these trees, and then the others
abbrev pub trees_before : List PlainTree → PlainTrees → PlainTrees
trees_before [] us = us
trees_before (t ∷ ts) us = tree t (trees_before ts us)

-- the same of the items up to some offset
pub record HasPushed (levels : ℕ) (text : List ℕ) (at : ℕ) (old now : List LentTree) (end : ℕ) : Type 0 where
  pub pushed : List LentTree
  pub wait : now ≡ old ++ pushed
  pub reads : (ts : PlainTrees) (rest : List Token) → HasItems (depth_of levels) text end ts rest → HasItems (depth_of levels) text at (trees_before (map lent_tree_view pushed) ts) rest
  pub well_formed : IsTrue (are_well_formed (trees_of (map lent_tree_view pushed)))
  pub fit : IsTrue (all_items_fit (trees_of (map lent_tree_view pushed)))
  pub texts : AreItemTexts (trees_of (map lent_tree_view pushed))
  pub shallow : trees_depth (trees_of (map lent_tree_view pushed)) ≤ levels
  pub later : at ≤ end

texts_push : (ts : List PlainTree) (t : PlainTree) → AreItemTexts (trees_of ts) → AreTexts t → AreItemTexts (trees_of (ts ++ t ∷ []))
texts_push [] t h k = (k, tt)
texts_push (u ∷ ts) t h k = (h.0, texts_push ts t h.1 k)

before-push : (ts : List PlainTree) (t : PlainTree) (us : PlainTrees) → trees_before ts (tree t us) ≡ trees_before (ts ++ t ∷ []) us
before-push [] t us = refl
before-push (u ∷ ts) t us = ap (tree u) (before-push ts t us)

before-none : (ts : List PlainTree) → trees_before ts no_trees ≡ trees_of ts
before-none [] = refl
before-none (t ∷ ts) = ap (tree t) (before-none ts)

depth-push : (ts : List PlainTree) (t : PlainTree) (n : ℕ) → trees_depth (trees_of ts) ≤ n → tree_depth t ≤ n → trees_depth (trees_of (ts ++ t ∷ [])) ≤ n
depth-push [] t n h k = omega arith
depth-push (u ∷ ts) t n h k = omega (arith, depth-push ts t n (omega arith) k)

pub ReadsTree-text : (levels : ℕ) (d : List ℕ) (at : ℕ) (old : List LentTree) (t : PlainTree) (s : List ℕ) (next : ℕ) → t ≡ text s → HasString d at s next → ReadsTree levels d at old old t next
ReadsTree-text levels d at old t s next is h =
    record {
      same = refl;
      reads = subst (λ t. HasTree (depth_of levels) d at t next) (sym is) (HasTree-text (depth_of levels) d at s next h);
      kept = subst IsKept (sym is) (record { well_formed = refl; fits = refl });
      texts = subst AreTexts (sym is) h.utf8;
      shallow = omega (arith, ap tree_depth is);
    }

pub HasPushed-more : (levels : ℕ) (d : List ℕ) (at : ℕ) (old now left new : List LentTree) (pushed : LentTree) (end mid next : ℕ) → HasPushed levels d at old now end → HasLexeme d end comma (end + 1) → lexemes d mid ≡ lexemes d (end + 1) → end + 1 ≤ mid
    → ReadsTree levels d mid now left (lent_tree_view pushed) next → new ≡ left ++ pushed ∷ [] → HasPushed levels d at old new next
HasPushed-more levels d at old now left new pushed end mid next h sign same le more waits =
    let t = lent_tree_view pushed in
    let done = map lent_tree_view h.pushed in
    let seen : done ++ t ∷ [] ≡ map lent_tree_view (h.pushed ++ pushed ∷ []) = sym (map-append lent_tree_view h.pushed (pushed ∷ [])) in
    record {
      pushed = h.pushed ++ pushed ∷ [];
      wait = waits ∙ ap (λ l. l ++ pushed ∷ []) (more.same ∙ h.wait) ∙ append_assoc old h.pushed (pushed ∷ []);
      reads = λ ts rest k.
          subst (λ us. HasItems (depth_of levels) d at us rest) (before-push done t ts ∙ ap (λ l. trees_before l ts) seen)
          (h.reads (tree t ts) rest (HasItems-more (depth_of levels) d end mid t next ts rest (comma_passed d end mid sign same) more.reads k));
      well_formed = subst (λ l. IsTrue (are_well_formed (trees_of l))) seen (well_formed_push done t h.well_formed more.kept.well_formed);
      fit = subst (λ l. IsTrue (all_items_fit (trees_of l))) seen (fit_push done t h.fit more.kept.fits);
      texts = subst (λ l. AreItemTexts (trees_of l)) seen (texts_push done t h.texts more.texts);
      shallow = subst (λ l. trees_depth (trees_of l) ≤ levels) seen (depth-push done t levels h.shallow more.shallow);
      later = omega (arith, h.later, more.reads.later);
    }

pub ReadsItems-end : (levels : ℕ) (d : List ℕ) (at : ℕ) (old now new items : List LentTree) (waiting end next : ℕ) → (h : HasPushed levels d at old now end) → HasLexeme d end (token end_array) (end + 1) → lexemes d next ≡ lexemes d (end + 1) → end + 1 ≤ next → next ≤ length d
    → waiting ≡ length old → items ≡ drop waiting now → new ≡ take waiting now → length items ≤ 4294967295 → ReadsItems levels d at old new items next
ReadsItems-end levels d at old now new items waiting end next h sign same le within many taken left few =
    let these : items ≡ h.pushed = taken ∙ ap (drop waiting) h.wait ∙ drop_at old h.pushed waiting (sym many) in
    let views = ap (map lent_tree_view) (sym these) in
    record {
      same = left ∙ ap (take waiting) h.wait ∙ take_at old h.pushed waiting (sym many);
      reads = subst (λ us. HasItems (depth_of levels) d at us (tokens_from after_value d next)) (before-none (map lent_tree_view h.pushed) ∙ ap trees_of views)
          (h.reads no_trees (tokens_from after_value d next) (HasItems-end (depth_of levels) d end (tokens_from after_value d next) (bracket_passed d end next sign same)));
      kept = record {
        well_formed = subst (λ l. IsTrue (are_well_formed (trees_of l))) views h.well_formed;
        fit = subst (λ l. IsTrue (all_items_fit (trees_of l))) views h.fit;
        few = omega (arith, length-map items lent_tree_view);
      };
      texts = subst (λ l. AreItemTexts (trees_of l)) views h.texts;
      shallow = subst (λ l. trees_depth (trees_of l) ≤ levels) views h.shallow;
      later = omega (arith, h.later);
      within = within;
    }

pub ReadsTree-element : (levels : ℕ) (d : List ℕ) (at named inside : ℕ) (old new : List LentTree) (t : PlainTree) (tag : List ℕ) (c : PlainContent) (next : ℕ) → 0 < levels → HasLexeme d at (token begin_array) (at + 1) → lexemes d named ≡ lexemes d (at + 1)
    → at < named → HasString d named tag inside → ReadsContent (levels - 1) d inside old new c next → t ≡ element tag c → ReadsTree levels d at old new t next
ReadsTree-element levels d at named inside old new t tag c next some sign same after h k is =
    let deep : depth_of levels ≡ depth_of (levels - 1) + 1 = omega arith in
    record {
      same = k.same;
      reads = subst (λ t. HasTree (depth_of levels) d at t next) (sym is)
          (HasTree-element (depth_of levels) (depth_of (levels - 1)) d at (at + 1) named tag inside c next deep sign same h k.reads (omega (arith, h.later, k.later)) k.within);
      kept = subst IsKept (sym is) (record { well_formed = k.kept.well_formed; fits = k.kept.fits });
      texts = subst AreTexts (sym is) (h.utf8, k.texts);
      shallow = omega (arith, ap tree_depth is, k.shallow);
    }

-- a text behind a tag, and the end of its element
pub ReadsAlone-text : (d : List ℕ) (at mid : ℕ) (s : List ℕ) (end next : ℕ) → HasLexeme d at comma (at + 1) → lexemes d mid ≡ lexemes d (at + 1) → at + 1 ≤ mid → HasString d mid s end → HasLexeme d end (token end_array) (end + 1) → lexemes d next ≡ lexemes d (end + 1)
    → end + 1 ≤ next → next ≤ length d → ReadsAlone d at s next
ReadsAlone-text d at mid s end next sign same le h close again more within =
    let rest = tokens_from after_value d next in
    record {
      reads = λ depth.
          HasContent-items depth d at (tree (text s) no_trees) rest
          (HasItems-more depth d at mid (text s) end no_trees rest (comma_passed d at mid sign same) (HasTree-text depth d mid s end h) (HasItems-end depth d end rest (bracket_passed d end next close again)));
      utf8 = h.utf8;
      later = omega (arith, h.later);
      within = within;
    }

pub ReadsContent-text : (levels : ℕ) (d : List ℕ) (at : ℕ) (old : List LentTree) (s : List ℕ) (next : ℕ) → ReadsAlone d at s next → ReadsContent levels d at old old (only_text s) next
ReadsContent-text levels d at old s next h =
    record {
      same = refl;
      reads = h.reads (depth_of levels);
      kept = record { well_formed = refl; fits = refl };
      texts = (tt, (h.utf8, tt));
      shallow = omega arith;
      later = h.later;
      within = h.within;
    }

-- attributes behind a tag, and none there
pub ReadsFront-attrs : (d : List ℕ) (at mid : ℕ) (xs : List PlainAttr) (end next : ℕ) → HasLexeme d at comma (at + 1) → lexemes d mid ≡ lexemes d (at + 1) → at + 1 ≤ mid → ReadsObject d mid xs end → lexemes d next ≡ lexemes d end → end ≤ next → ReadsFront d at xs next
ReadsFront-attrs d at mid xs end next sign same le h again more =
    record {
      reads = λ depth ts rest some k.
          let deep : depth - 1 + 1 ≡ depth = omega arith in
          HasContent-attrs depth d at mid xs end next ts rest (comma_passed d at mid sign same) (subst (λ n. HasAttrs n d mid xs (tokens_from after_value d end)) deep (h.attrs (depth - 1))) again k;
      kept = h.kept;
      later = omega (arith, h.later);
    }

pub ReadsFront-none : (d : List ℕ) (at : ℕ) (xs : List PlainAttr) → xs ≡ [] → ReadsFront d at xs at
ReadsFront-none d at xs none =
    subst (λ (ys : List PlainAttr). ReadsFront d at ys at) (sym none) (record {
      reads = λ depth ts rest some k. HasContent-items depth d at ts rest k;
      kept = record { ascending = refl; in_range = refl; texts = tt };
      later = omega arith;
    })

pub ReadsContent-parts : (levels : ℕ) (d : List ℕ) (at begun : ℕ) (old new items : List LentTree) (c : PlainContent) (xs : List PlainAttr) (next : ℕ) → c ≡ content xs (trees_of (map lent_tree_view items)) → ReadsFront d at xs begun → ReadsItems levels d begun old new items next
    → ReadsContent levels d at old new c next
ReadsContent-parts levels d at begun old new items c xs next is front h =
    let ts = trees_of (map lent_tree_view items) in
    record {
      same = h.same;
      reads = subst (λ x. HasContent (depth_of levels) d at x (tokens_from after_value d next)) (sym is) (front.reads (depth_of levels) ts (tokens_from after_value d next) (omega arith) h.reads);
      kept = subst IsContentKept (sym is) (IsContentKept-parts xs (map lent_tree_view items) front.kept h.kept);
      texts = subst AreContentTexts (sym is) (front.kept.texts, h.texts);
      shallow = omega (arith, ap content_depth is, h.shallow);
      later = omega (arith, front.later, h.later);
      within = h.within;
    }
