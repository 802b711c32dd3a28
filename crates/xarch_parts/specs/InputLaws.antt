-- The length of an input file, before its bytes are read.
use Rattle.std.proofs.Common.{◌≡◌, ℕ, Bool, true, false, nat_le, List, length, take, Option, Some, None, Result, Ok, Err, if◌then◌else◌, refl, sym, ap, ◌∙◌, subst, arith}
use Rattle.std.proofs.Math.Seq.{take-length}
use Rattle.std.proofs.lemmas.Bool.{le-leb}
use Rattle.std.specs.FinMap as map
use Rattle.xa_outside.specs.Folder.{Files, bytes_or_none, front, front_of}
use Rattle.xarch_words.specs.Refusal.{PlainQuantity, Refusal, no_file, limit, PlainFault, refused, folder_fault, out_fault, in_fault, memory}
use Rattle.xarch_words.specs.declared.fault.Fault.{Fault}
use Rattle.xarch_parts.specs.Ends.{IsDefined, Matches}
use Rattle.xarch_parts.specs.Inputs.{at_most, file_length, file_of, length_in}
use Rattle.xarch_parts.specs.Outcome.{and_then, or_refuse}

within : (n m : ℕ) (r : Refusal) (c : Bool) → (if c then Ok m else Err r) ≡ Ok n → (let x : Result ℕ Refusal = Ok m in x ≡ Ok n)
within n m r true h = h
within n m r false h = absurd cc

length_from : (x : Result (List ℕ) Refusal) (quantity : PlainQuantity) (most n : ℕ) → and_then x (λ bytes. at_most quantity most (length bytes)) ≡ Ok n → and_then x (λ bytes. Ok (length bytes)) ≡ Ok n
length_from (Ok bytes) quantity most n h = within n (length bytes) (limit quantity most) (nat_le (length bytes) most) h
length_from (Err e) quantity most n h = absurd cc

-- a length within a limit is the length
pub length_in-length : (files : Files) (name : List ℕ) (quantity : PlainQuantity) (most n : ℕ) → length_in files name quantity most ≡ Ok n → file_length files name ≡ Ok n
length_in-length files name quantity most n h = length_from (file_of files name) quantity most n h

-- a length that is judged by a limit
pub limited : (x : Result (List ℕ) Refusal) (quantity : PlainQuantity) (most n : ℕ) (r : Result ℕ Fault) → and_then x (λ bytes. Ok (length bytes)) ≡ Ok n → Matches (λ k. k) (at_most quantity most n) r
    → Matches (λ k. k) (and_then x (λ bytes. at_most quantity most (length bytes))) r
limited (Ok bytes) quantity most n r h m = let same : length bytes ≡ n = cc in subst (λ k. Matches (λ j. j) (at_most quantity most k) r) (sym same) m
limited (Err e) quantity most n r h m = absurd cc

-- as many bytes as a file has from its front are all of them
pub front_is_whole : (o : Option (List ℕ)) (r : Refusal) (n : ℕ) (front : List ℕ) → and_then (or_refuse o r) (λ bytes. Ok (length bytes)) ≡ Ok n → front ≡ take n (bytes_or_none o) → or_refuse o r ≡ Ok front
front_is_whole None r n front e is = absurd cc
front_is_whole (Some bytes) r n front e is = let same : length bytes ≡ n = cc in ap (λ (l : List ℕ). Ok l) (sym (is ∙ ap (λ k. take k bytes) (sym same) ∙ take-length bytes))

-- a file that has no length is not there
pub IsDefined-file : (x : Result (List ℕ) Refusal) (v : PlainFault) → IsDefined (and_then x (λ bytes. Ok (length bytes))) v → IsDefined x v
unfolding IsDefined
IsDefined-file (Err e) (refused r) p = let same : e ≡ r = cc in ap (λ s. Err s) same
IsDefined-file (Ok bytes) (refused r) p = absurd cc
IsDefined-file x folder_fault p = tt
IsDefined-file x out_fault p = tt
IsDefined-file x in_fault p = tt
IsDefined-file x memory p = tt

-- a file that has a length is there, and what holds of all bytes holds of its own
pub IsDefined-length : {C : Type 0} (x : Result (List ℕ) Refusal) (n : ℕ) (f : List ℕ → Result C Refusal) (v : PlainFault) → and_then x (λ bytes. Ok (length bytes)) ≡ Ok n → ((bytes : List ℕ) → IsDefined (f bytes) v)
    → IsDefined (and_then x f) v
IsDefined-length (Ok bytes) n f v h p = p bytes
IsDefined-length (Err e) n f v h p = absurd cc

-- ---- the length of a file

length_there : (o : Option (List ℕ)) (name bytes : List ℕ) (n : ℕ) → o ≡ Some bytes → and_then (or_refuse o (no_file name)) (λ b. Ok (length b)) ≡ Ok n → n ≡ length bytes
length_there None name bytes n e h = absurd cc
length_there (Some b) name bytes n e h = let l : length b ≡ n = cc in let same : b ≡ bytes = cc in sym l ∙ ap length same

pub length-is : (files : Files) (name bytes : List ℕ) (n : ℕ) → map.get files name ≡ Some bytes → file_length files name ≡ Ok n → n ≡ length bytes
length-is files name bytes n there long = length_there (map.get files name) name bytes n there long

-- all bytes are the front of as many
pub front-all : (bytes : List ℕ) → front (length bytes) bytes ≡ Some bytes
front-all bytes = let fits : nat_le (length bytes) (length bytes) ≡ true = le-leb (length bytes) (length bytes) (omega arith) in rw (fits, take-length bytes) refl

-- a file is its own front, as far as it is long
pub whole_front : (files : Files) (name bytes : List ℕ) (n : ℕ) → map.get files name ≡ Some bytes → n ≡ length bytes → front_of files name n ≡ Some bytes
whole_front files name bytes n there long = ap (λ o. front n (bytes_or_none o)) there ∙ ap (λ k. front k bytes) long ∙ front-all bytes
