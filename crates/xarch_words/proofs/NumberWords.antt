-- Which words are numbers.
use Rattle.std.proofs.Common.{◌≡◌, ℕ, ◌<◌, ◌^◌, Bool, true, false, cond, ◌&&◌, nat_le, List, Some, None, refl, sym, ap, ◌∙◌, arith}
use Rattle.std.specs.Fmt.{decimal}
use Rattle.std.specs.Str.{bytes_eq}
use Rattle.std.specs.Str.Parse.{digits_value}
use Rattle.std.proofs.lemmas.Bool.{leb-true, le-leb}
use Rattle.std.proofs.lemmas.Fmt.{decimal_is_IsNumeral}
use Rattle.std.proofs.lemmas.Slice.Eq.{bytes_eq-Decides}
use Rattle.xarch_words.specs.Commands.{number_of}

-- the decimal text of a number that has 32 bits
pub number_of-decimal : (word : List ℕ) (n : ℕ) → n < 2 ^ 32 → word ≡ decimal n → number_of word ≡ Some n
unfolding number_of
number_of-decimal word n small is =
    let value : digits_value 10 word ≡ n = ap (digits_value 10) is ∙ (decimal_is_IsNumeral n (omega arith)).1 in
    let text : bytes_eq word (decimal (digits_value 10 word)) ≡ true = (bytes_eq-Decides word (decimal (digits_value 10 word))).1 (is ∙ ap decimal (sym value)) in
    let fits : nat_le (digits_value 10 word) 4294967295 ≡ true = le-leb (digits_value 10 word) 4294967295 (omega (arith, value)) in
    rw (text, fits) (ap (λ m. Some m) value)

-- no other word
pub number_of-none : (word : List ℕ) → ((n : ℕ) → n < 2 ^ 32 → ¬ (word ≡ decimal n)) → number_of word ≡ None
unfolding number_of
number_of-none word none = by (bytes_eq word (decimal n)) (nat_le n 4294967295) refl refl
  where
    n : ℕ
    n = digits_value 10 word

    by : (a b : Bool) → bytes_eq word (decimal n) ≡ a → nat_le n 4294967295 ≡ b → cond (a && b) (Some n) None ≡ None
    by true true text fits = absurd (none n (omega (arith, leb-true n 4294967295 fits)) ((bytes_eq-Decides word (decimal n)).0 text))
    by true false text fits = refl
    by false b text fits = refl
