-- How far a line has been read, and how the reading of it ends.
use Rattle.std.proofs.Common.{◌≡◌, ℕ, ◌+◌, ◌<◌, ◌≤◌, List, [], ◌∷◌, ◌++◌, length, take, drop, Bool, true, false, IsErrAnd, Option, None, Some, Result, Ok, Err, refl, sym, ap, ◌∙◌, subst, arith, append_assoc, append-nil, take-append-drop, length-append}
use Rattle.std.proofs.Math.Seq.{drop-length}
use Rattle.std.specs.Io.KnownBytes.{Consumes, prepend_known}
use Rattle.std.proofs.KnownBytes.{Consumes-nil, Consumes-trans, Consumes-kept}
use Rattle.xarch_run.specs.Feed.{Fills, ahead, budget, pending}
use Rattle.xarch_run.specs.Lines.{has_line_feed}
use Rattle.xarch_run.specs.Shown.{Shows}
use Rattle.xarch_run.specs.Taking.{PutsAll, PutsEnd, TakesLine}
use Rattle.xarch_run.specs.declared.feed.Feed.{Feed}
use Rattle.xarch_run.specs.declared.line.Line.{Line}
use Rattle.xarch_run.specs.declared.lines.Lines.{Lines}
use Rattle.xarch_run.specs.declared.stop.Stop.{Stop}
use Rattle.xarch_run.specs.declared.stop.Stop.TheVariants.{Failed, PastLimit, Memory}
use Rattle.xarch_run.proofs.FeedLemmas.{Consumes-pending}
use Rattle.xarch_run.proofs.LineLemmas.{IsFirstLineFeed, has_line_feed-append}

-- ---- one piece

feed_apart : (xs ys : List ℕ) (at : ℕ) → IsFirstLineFeed xs at → ys ≡ drop (at + 1) xs → xs ≡ take at xs ++ 10 ∷ ys
feed_apart xs ys at first e = sym (take-append-drop at xs) ∙ ap (λ l. take at xs ++ l) first.one ∙ ap (λ l. take at xs ++ 10 ∷ l) (sym e)

pub puts-end : (before now : Lines) (line piece : List ℕ) (at : ℕ) → Shows now.line (line ++ piece) → piece ≡ take at (pending before.feed)
    → IsFirstLineFeed (pending before.feed) at → pending now.feed ≡ drop (at + 1) (pending before.feed) → PutsEnd before now line
puts-end before now line piece at shows is first rest =
    record {
      piece = piece;
      one = ap has_line_feed is ∙ first.none;
      shows = shows;
      consumed = feed_apart (pending before.feed) (pending now.feed) at first rest ∙ ap (λ l. l ++ 10 ∷ pending now.feed) (sym is);
    }

pub puts-all : (before now : Lines) (line piece : List ℕ) (n : ℕ) → Shows now.line (line ++ piece) → piece ≡ pending before.feed
    → has_line_feed (pending before.feed) ≡ false → n ≡ length (pending before.feed) → pending now.feed ≡ drop n (pending before.feed) → PutsAll before now line
puts-all before now line piece n shows is none all rest =
    record {
      one = none;
      shows = subst (λ l. Shows now.line (line ++ l)) is shows;
      consumed = rest ∙ ap (λ k. drop k (pending before.feed)) all ∙ drop-length (pending before.feed);
    }

-- ---- a line as far as it has come

pub record InLine (before now : Lines) (old new : Option (List ℕ)) : Type 0 where
  pub bytes : List ℕ
  pub one : has_line_feed bytes ≡ false
  pub shows : Shows now.line bytes
  pub consumed : Consumes (ahead before.feed old) (ahead now.feed new) bytes
  pub counted : length bytes + budget now.feed ≡ budget before.feed

pub in-begun : (before now : Lines) (a : Option (List ℕ)) → now.feed ≡ before.feed → Shows now.line [] → InLine before now a a
in-begun before now a same shows =
    record {
      bytes = [];
      one = refl;
      shows = shows;
      consumed = subst (λ (f : Feed). Consumes (ahead before.feed a) (ahead f a) []) (sym same) (Consumes-nil (ahead before.feed a));
      counted = let e : budget now.feed ≡ budget before.feed = ap budget same in omega arith;
    }

-- a byte is pending
pub in-filled : (before now next : Lines) (a b c : Option (List ℕ)) → InLine before now a b → Fills now.feed next.feed b c (Ok true) → next.line ≡ now.line → InLine before next a c
in-filled before now next a b c i fills same =
    record {
      bytes = i.bytes;
      one = i.one;
      shows = subst (λ (l : Line). Shows l i.bytes) (sym same) i.shows;
      consumed = Consumes-kept (ahead before.feed a) (ahead now.feed b) (ahead next.feed c) i.bytes i.consumed fills.1;
      counted = let e : budget next.feed ≡ budget now.feed = fills.2 in let t = i.counted in omega arith;
    }

within : (l : List ℕ) (left whole : ℕ) → length l + left ≡ whole → length l ≤ whole
within l left whole e = omega (arith, e)

-- the input is at its end
pub in-last : (before now next : Lines) (a b c : Option (List ℕ)) → InLine before now a b → Fills now.feed next.feed b c (Ok false) → next.line ≡ now.line → TakesLine before next a c (Ok false)
in-last before now next a b c i fills same =
    record {
      bytes = i.bytes;
      one = i.one;
      shows = subst (λ (l : Line). Shows l i.bytes) (sym same) i.shows;
      consumed = Consumes-kept (ahead before.feed a) (ahead now.feed b) c i.bytes i.consumed fills.1;
      ends = fills.0;
      counted = within i.bytes (budget now.feed) (budget before.feed) i.counted;
    }

-- no byte came
pub in-stopped : (stop : Stop) (before now next last : Lines) (a b c : Option (List ℕ)) → InLine before now a b → Fills now.feed next.feed b c (Err stop) → TakesLine before last a c (Err stop)
in-stopped Failed before now next last a b c i fills =
    record {
      bytes = i.bytes;
      one = i.one;
      consumed = Consumes-kept (ahead before.feed a) (ahead now.feed b) c i.bytes i.consumed fills;
      counted = within i.bytes (budget now.feed) (budget before.feed) i.counted;
    }
in-stopped PastLimit before now next last a b c i fills =
    record {
      bytes = i.bytes;
      one = i.one;
      byte = fills.0;
      consumed = Consumes-trans (ahead before.feed a) (ahead now.feed b) c i.bytes (fills.0 ∷ []) i.consumed fills.1;
      counted = let e : budget now.feed ≡ 0 = fills.2 in let t = i.counted in omega arith;
    }
in-stopped Memory before now next last a b c i fills = absurd fills

-- an LF ended it
pub in-ended : (before now next : Lines) (a b : Option (List ℕ)) (i : InLine before now a b) → PutsEnd now next i.bytes → next.feed.left ≡ now.feed.left → TakesLine before next a b (Ok true)
in-ended before now next a b i put left =
    let whole : pending now.feed ≡ (put.piece ++ 10 ∷ []) ++ pending next.feed = put.consumed ∙ sym (append_assoc put.piece (10 ∷ []) (pending next.feed)) in
    let size : length (pending now.feed) ≡ length put.piece + length (10 ∷ pending next.feed) = ap length put.consumed ∙ length-append put.piece (10 ∷ pending next.feed) in
    record {
      bytes = i.bytes ++ put.piece;
      one = has_line_feed-append i.bytes put.piece i.one put.one;
      shows = put.shows;
      consumed =
          subst (Consumes (ahead before.feed a) (ahead next.feed b)) (sym (append_assoc i.bytes put.piece (10 ∷ [])))
          (Consumes-trans (ahead before.feed a) (ahead now.feed b) (ahead next.feed b) i.bytes (put.piece ++ 10 ∷ []) i.consumed (Consumes-pending b (put.piece ++ 10 ∷ []) (pending now.feed) (pending next.feed) whole));
      counted = let t = i.counted in omega (arith, length-append i.bytes put.piece, size);
    }

-- it goes on behind the pending bytes
pub in-all : (before now next : Lines) (a b : Option (List ℕ)) (i : InLine before now a b) → PutsAll now next i.bytes → next.feed.left ≡ now.feed.left → InLine before next a b
in-all before now next a b i put left =
    let whole : pending now.feed ≡ pending now.feed ++ pending next.feed = sym (append-nil (pending now.feed)) ∙ ap (λ l. pending now.feed ++ l) (sym put.consumed) in
    let none : length (pending next.feed) ≡ 0 = ap length put.consumed in
    record {
      bytes = i.bytes ++ pending now.feed;
      one = has_line_feed-append i.bytes (pending now.feed) i.one put.one;
      shows = put.shows;
      consumed = Consumes-trans (ahead before.feed a) (ahead now.feed b) (ahead next.feed b) i.bytes (pending now.feed) i.consumed (Consumes-pending b (pending now.feed) (pending now.feed) (pending next.feed) whole);
      counted = let t = i.counted in omega (arith, length-append i.bytes (pending now.feed));
    }

-- the pending bytes are the first of what is ahead
pub pending_read : (rest : Option (List ℕ)) (p : List ℕ) → Consumes (prepend_known p rest) rest p
pending_read None p = tt
pending_read (Some x) p = refl

-- no memory was there for it
pub in-memory : (before now last : Lines) (a b : Option (List ℕ)) → InLine before now a b → TakesLine before last a b (Err Memory)
in-memory before now last a b i = (i.bytes ++ pending now.feed, Consumes-trans (ahead before.feed a) (ahead now.feed b) b i.bytes (pending now.feed) i.consumed (pending_read b (pending now.feed)))

-- fewer bytes may still come
pub in-fewer : (now next : Lines) (line : List ℕ) → 0 < length (pending now.feed) → PutsAll now next line → next.feed.left ≡ now.feed.left → budget next.feed < budget now.feed
in-fewer now next line some put left = let none : length (pending next.feed) ≡ 0 = ap length put.consumed in omega arith

-- an error that was handed on
pub in-handed : (before now : Lines) (a b : Option (List ℕ)) (stop : Stop) (r : Result Bool Stop) → IsErrAnd r (λ s. s ≡ stop) → TakesLine before now a b (Err stop) → TakesLine before now a b r
in-handed before now a b stop (Ok v) e p = absurd e
in-handed before now a b stop (Err s) e p = subst (λ (t : Stop). TakesLine before now a b (Err t)) (sym e) p
