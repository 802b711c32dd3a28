-- What several writes, one after the other, have a sink take.
use Rattle.std.proofs.Common.{◌≡◌, ℕ, ◌+◌, ◌<◌, min, suc, refl, List, [], ◌∷◌, ◌++◌, length, take, drop, get_or, Option, None, Some, Result, Ok, Err, true, sym, ap, ◌∙◌, subst, arith, drop-cons, take-append-drop}
use Rattle.std.specs.Result.{IsErr, is_err}
use Rattle.std.specs.List.{flat_map}
use Rattle.std.proofs.lemmas.Grind.{flat_map-append}
use Rattle.std.proofs.Math.Seq.{take-append-add, take-length}
use Rattle.std.proofs.lemmas.List.{take-append-le, take_min, take_more, flat_map_more}
use Rattle.std.specs.Io.KnownBytes.{Appends, Keeps}
use Rattle.std.proofs.KnownBytes.{Appends-trans, Appends-nil, Appends-kept, Keeps-refl, Keeps-trans}
use Rattle.xa_outside.specs.Taken.{Taken, Behind, Grows, StaysBehind, Takes, TakesNone, TakesPrefix, Writes, Puts}

-- ---- the sinks behind

pub Grows-refl : (a : Option (List ℕ)) → Grows a a
Grows-refl a = ([], Appends-nil a)

pub Grows-from_keeps : (a b : Option (List ℕ)) → Keeps a b → Grows a b
Grows-from_keeps a b p = ([], Appends-kept a a b [] (Appends-nil a) p)

pub Grows-trans : (a b c : Option (List ℕ)) → Grows a b → Grows b c → Grows a c
Grows-trans a b c p q = (p.0 ++ q.0, Appends-trans a b c p.0 q.0 p.1 q.1)

pub StaysBehind-refl : (xs : List Behind) → StaysBehind xs xs
StaysBehind-refl [] = tt
StaysBehind-refl (x ∷ xs) = (refl, Grows-refl x.bytes, StaysBehind-refl xs)

pub StaysBehind-trans : (xs ys zs : List Behind) → StaysBehind xs ys → StaysBehind ys zs → StaysBehind xs zs
StaysBehind-trans [] [] zs p q = q
StaysBehind-trans [] (y ∷ ys) zs p q = absurd p
StaysBehind-trans (x ∷ xs) [] zs p q = absurd p
StaysBehind-trans (x ∷ xs) (y ∷ ys) [] p q = absurd q
StaysBehind-trans (x ∷ xs) (y ∷ ys) (z ∷ zs) p q = (q.0 ∙ p.0, Grows-trans x.bytes y.bytes z.bytes p.1 q.1, StaysBehind-trans xs ys zs p.2 q.2)

-- ---- a whole piece

pub Takes-nil : (a : Taken) → Takes a a []
Takes-nil a = record { bytes = Appends-nil a.bytes; behind = StaysBehind-refl a.behind }

pub Takes-trans : (a b c : Taken) (x y : List ℕ) → Takes a b x → Takes b c y → Takes a c (x ++ y)
Takes-trans a b c x y p q = record { bytes = Appends-trans a.bytes b.bytes c.bytes x y p.bytes q.bytes; behind = StaysBehind-trans a.behind b.behind c.behind p.behind q.behind }

-- the piece of one item, behind the pieces of the items before it
pub Takes-piece : {X : Type 0} (f : X → List ℕ) (a b c : Taken) (xs : List X) (i : ℕ) (d : X) → i < length xs → Takes a b (flat_map f (take i xs)) → Takes b c (f (get_or xs i d)) → Takes a c (flat_map f (take (i + 1) xs))
Takes-piece f a b c xs i d within before now =
    subst (Takes a c) (sym (ap (flat_map f) (take_more xs i d within) ∙ sym (flat_map_more f [] (take i xs) (get_or xs i d)))) (Takes-trans a b c _ _ before now)

-- nothing more came
pub Takes-kept : (a b c : Taken) (x : List ℕ) → Takes a b x → TakesNone b c → Takes a c x
Takes-kept a b c x p q = record { bytes = Appends-kept a.bytes b.bytes c.bytes x p.bytes q.bytes; behind = StaysBehind-trans a.behind b.behind c.behind p.behind q.behind }

-- ---- nothing

pub TakesNone-refl : (a : Taken) → TakesNone a a
TakesNone-refl a = record { bytes = Keeps-refl a.bytes; behind = StaysBehind-refl a.behind }

pub TakesNone-trans : (a b c : Taken) → TakesNone a b → TakesNone b c → TakesNone a c
TakesNone-trans a b c p q = record { bytes = Keeps-trans a.bytes b.bytes c.bytes p.bytes q.bytes; behind = StaysBehind-trans a.behind b.behind c.behind p.behind q.behind }

appends_after : (a b c : Option (List ℕ)) (x : List ℕ) → Keeps a b → Appends b c x → Appends a c x
appends_after None b c x p q = tt
appends_after (Some v) None c x p q = absurd p
appends_after (Some v) (Some w) None x p q = absurd q
appends_after (Some v) (Some w) (Some z) x p q = q ∙ ap (λ l. l ++ x) p

-- nothing was taken before
pub Takes-after_none : (a b c : Taken) (x : List ℕ) → TakesNone a b → Takes b c x → Takes a c x
Takes-after_none a b c x p q = record { bytes = appends_after a.bytes b.bytes c.bytes x p.bytes q.bytes; behind = StaysBehind-trans a.behind b.behind c.behind p.behind q.behind }

pub Writes-after_none : {E : Type 0} (a b c : Taken) (r : Result ℕ E) (piece : List ℕ) → TakesNone a b → Writes b c r piece → Writes a c r piece
Writes-after_none a b c (Ok n) piece p q = Takes-after_none a b c (take n piece) p q
Writes-after_none a b c (Err e) piece p q = TakesNone-trans a b c p q

-- ---- a prefix

-- nothing was written
pub TakesPrefix-none : (a : Taken) (x : List ℕ) → TakesPrefix a a x
TakesPrefix-none a x = record { count = 0; takes = Takes-nil a }

-- all was written
pub TakesPrefix-all : (a b : Taken) (x : List ℕ) → Takes a b x → TakesPrefix a b x
TakesPrefix-all a b x p = record { count = length x; takes = subst (Takes a b) (sym (take-length x)) p }

-- behind what was written whole
pub TakesPrefix-after : (a b c : Taken) (x y : List ℕ) → Takes a b x → TakesPrefix b c y → TakesPrefix a c (x ++ y)
TakesPrefix-after a b c x y p q = record { count = length x + q.count; takes = subst (Takes a c) (sym (take-append-add x y q.count)) (Takes-trans a b c x (take q.count y) p q.takes) }

front_of : (n : ℕ) (x y : List ℕ) (m : ℕ) → m ≡ min n (length x) → take m (x ++ y) ≡ take n x
front_of n x y m e = take-append-le m x y (omega arith) ∙ ap (λ k. take k x) e ∙ take_min n x

-- a prefix of the front is one of the whole
pub TakesPrefix-more : (a b : Taken) (x y : List ℕ) → TakesPrefix a b x → TakesPrefix a b (x ++ y)
TakesPrefix-more a b x y p = record { count = min p.count (length x); takes = subst (Takes a b) (sym (front_of p.count x y _ refl)) p.takes }

-- a prefix of the next piece, of a whole that goes on
pub TakesPrefix-in : (a b c : Taken) (whole x y z : List ℕ) → whole ≡ x ++ (y ++ z) → Takes a b x → TakesPrefix b c y → TakesPrefix a c whole
TakesPrefix-in a b c whole x y z e p q = subst (TakesPrefix a c) (sym e) (TakesPrefix-after a b c x (y ++ z) p (TakesPrefix-more b c y z q))

-- a prefix of the piece of one item, behind the pieces of the items before it
pub TakesPrefix-piece : {X : Type 0} (f : X → List ℕ) (a b c : Taken) (xs : List X) (i : ℕ) (d : X) → i < length xs → Takes a b (flat_map f (take i xs)) → TakesPrefix b c (f (get_or xs i d))
    → TakesPrefix a c (flat_map f xs)
TakesPrefix-piece f a b c xs i d within before now =
    let all : flat_map f (take i xs) ++ (f (get_or xs i d) ++ flat_map f (drop (suc i) xs)) ≡ flat_map f xs =
    ap (λ l. flat_map f (take i xs) ++ flat_map f l) (sym (drop-cons xs i d within)) ∙ sym (flat_map-append f (take i xs) (drop i xs)) ∙ ap (flat_map f) (take-append-drop i xs) in
    TakesPrefix-in a b c (flat_map f xs) _ _ _ (sym all) before now

-- ---- what a call put, by its answer

-- a call that failed has put a prefix
pub TakesPrefix-from_err : {T E : Type 0} (a b : Taken) (r : Result T E) (x : List ℕ) → is_err r ≡ true → Puts a b r x → TakesPrefix a b x
TakesPrefix-from_err a b (Ok u) x e p = cc
TakesPrefix-from_err a b (Err f) x e p = p

-- whatever it answered, it has put a prefix
pub TakesPrefix-from_puts : {T E : Type 0} (a b : Taken) (r : Result T E) (x : List ℕ) → Puts a b r x → TakesPrefix a b x
TakesPrefix-from_puts a b (Ok u) x p = TakesPrefix-all a b x p
TakesPrefix-from_puts a b (Err f) x p = p

-- the call that comes behind what was written
pub Puts-after : {T E : Type 0} (a b c : Taken) (r : Result T E) (x y : List ℕ) → Takes a b x → Puts b c r y → Puts a c r (x ++ y)
Puts-after a b c (Ok u) x y p q = Takes-trans a b c x y p q
Puts-after a b c (Err e) x y p q = TakesPrefix-after a b c x y p q

-- an error handed on, of a whole that goes on
pub Puts-failed : {T E : Type 0} (a b : Taken) (r : Result T E) (x y : List ℕ) → IsErr r → TakesPrefix a b x → Puts a b r (x ++ y)
Puts-failed a b (Ok u) x y e p = cc
Puts-failed a b (Err f) x y e p = TakesPrefix-more a b x y p

-- the same, where the whole is known by an equation
pub Puts-cut : {T E : Type 0} (a b : Taken) (r : Result T E) (whole x y : List ℕ) → whole ≡ x ++ y → IsErr r → TakesPrefix a b x → Puts a b r whole
Puts-cut a b r whole x y e err p = subst (Puts a b r) (sym e) (Puts-failed a b r x y err p)

-- the same, behind what was written
pub Puts-in : {T E : Type 0} (a b c : Taken) (r : Result T E) (whole x y z : List ℕ) → whole ≡ x ++ (y ++ z) → IsErr r → Takes a b x → TakesPrefix b c y → Puts a c r whole
Puts-in a b c (Ok u) whole x y z e err p q = cc
Puts-in a b c (Err f) whole x y z e err p q = TakesPrefix-in a b c whole x y z e p q

-- an error handed on, from the piece of one item
pub Puts-piece : {X T E : Type 0} (f : X → List ℕ) (a b c : Taken) (r : Result T E) (xs : List X) (i : ℕ) (d : X) → i < length xs → IsErr r → Takes a b (flat_map f (take i xs)) → TakesPrefix b c (f (get_or xs i d)) → Puts a c r (flat_map f xs)
Puts-piece f a b c (Ok u) xs i d within err p q = cc
Puts-piece f a b c (Err e) xs i d within err p q = TakesPrefix-piece f a b c xs i d within p q

-- an error handed on, behind the front of the piece
pub Puts-stopped : {T E : Type 0} (a b c : Taken) (r : Result T E) (piece : List ℕ) (n : ℕ) → IsErr r → Takes a b (take n piece) → TakesNone b c → Puts a c r piece
Puts-stopped a b c (Ok u) piece n err p q = cc
Puts-stopped a b c (Err e) piece n err p q = record { count = n; takes = Takes-kept a b c (take n piece) p q }

-- for callers: a goal on a whole from what its pieces did
pub ruleset outputs = (Takes-nil, Takes-trans, TakesPrefix-none, TakesPrefix-all, TakesPrefix-after, TakesPrefix-more, Puts-after, Puts-failed)
