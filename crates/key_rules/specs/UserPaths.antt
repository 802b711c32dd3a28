-- The labels that a user's path names, or its first bad step.
use Rattle.std.specs.Prelude.{◌≡◌, ◌≢◌, ℕ, ◌+◌, ◌==◌, ◌||◌, Bool, false, List, [], ◌∷◌, length, Option, Some, None, Result, Ok, Err, if◌then◌else◌, ⊤}
use Rattle.std.specs.Option.{option_map, option_and_then}
use Rattle.serde_json.specs.Data.{Data, null, boolean, number, string, array, object, Items, no_items, item}
use Rattle.serde_json.specs.Read.{read}
use Rattle.jsonml_tree.specs.Data.{PlainContent, only_text}
use Rattle.jsonml_text.specs.Spelled.{scalar_in, content_in}
use Rattle.keyed_tree.specs.Data.{PlainName, attr, tag, PlainKey, scalar, inside, PlainLabel}
use Rattle.key_spec.specs.Data.{PlainPath, PlainRule}
use Rattle.key_spec.specs.Rules.{rule_of, is_frontier, below}

-- ---- key values

-- A string is the content of that one text, an array is a content.
abbrev pub content_value : Data → Option PlainContent
content_value null = None
content_value (boolean b) = None
content_value (number n) = None
content_value (string s) = Some (only_text s)
content_value (array ds) = content_in ds
content_value (object ms) = None

-- a scalar where the key path names an attribute, and a content where it does not
abbrev pub value_by : Option (List ℕ) → Data → Option PlainKey
value_by None d = option_map inside (content_value d)
value_by (Some name) d = option_map scalar (scalar_in d)

-- one value for each key path, in the order of the rule, and none besides
abbrev pub values_by : List PlainPath → Items → Option (List PlainKey)
values_by [] no_items = Some []
values_by [] (item d ds) = None
values_by (p ∷ ps) no_items = None
values_by (p ∷ ps) (item d ds) = option_and_then (λ k. option_map (λ ks. k ∷ ks) (values_by ps ds)) (value_by p.attr d)

-- ---- steps

-- the sign `@` in front of the name of an attribute
abbrev pub has_sign : List ℕ → Bool
has_sign [] = false
has_sign (b ∷ bs) = b == 64

abbrev pub behind_sign : List ℕ → List ℕ
behind_sign [] = []
behind_sign (b ∷ bs) = bs

-- an element by its tag and its key values, where a rule is for it
abbrev pub element_step : List PlainRule → List (List ℕ) → List ℕ → Items → Option PlainLabel
element_step rules path t values = option_and_then (λ r. option_map (λ ks. record { name = tag t; keys = ks }) (values_by r.paths values)) (rule_of rules path t)

-- an attribute of the element at this path, where there is one that is not at the frontier
abbrev pub attr_step : List PlainRule → List (List ℕ) → List ℕ → Option PlainLabel
attr_step rules path name = if length path == 0 || is_frontier rules path then None else Some (record { name = attr name; keys = [] })

abbrev pub word_step : List PlainRule → List (List ℕ) → List ℕ → Option PlainLabel
word_step rules path s = if has_sign s then attr_step rules path (behind_sign s) else element_step rules path s no_items

abbrev pub tagged_step : List PlainRule → List (List ℕ) → Data → Items → Option PlainLabel
tagged_step rules path null ds = None
tagged_step rules path (boolean b) ds = None
tagged_step rules path (number n) ds = None
tagged_step rules path (string s) ds = if has_sign s then None else element_step rules path s ds
tagged_step rules path (array es) ds = None
tagged_step rules path (object ms) ds = None

abbrev pub list_step : List PlainRule → List (List ℕ) → Items → Option PlainLabel
list_step rules path no_items = None
list_step rules path (item d ds) = tagged_step rules path d ds

-- the label that a step names behind elements of these tags
abbrev pub step_label : List PlainRule → List (List ℕ) → Data → Option PlainLabel
step_label rules path null = None
step_label rules path (boolean b) = None
step_label rules path (number n) = None
step_label rules path (string s) = word_step rules path s
step_label rules path (array ds) = list_step rules path ds
step_label rules path (object ms) = None

-- ---- paths

-- the tags from the root down to the last step, if all steps so far are elements
abbrev pub onward : Option (List (List ℕ)) → PlainName → Option (List (List ℕ))
onward None name = None
onward (Some path) (attr name) = None
onward (Some path) (tag t) = Some (below path t)

abbrev pub led_by : PlainLabel → Result (List PlainLabel) ℕ → Result (List PlainLabel) ℕ
led_by l (Ok ls) = Ok (l ∷ ls)
led_by l (Err n) = Err n

-- the label of the n-th step before those of the others, or else the n-th step is the fault
abbrev pub step_then : ℕ → Option PlainLabel → (PlainLabel → Result (List PlainLabel) ℕ) → Result (List PlainLabel) ℕ
step_then n None f = Err n
step_then n (Some l) f = led_by l (f l)

-- the steps from the n-th on; behind an attribute none is good
abbrev pub labels_from : List PlainRule → ℕ → Option (List (List ℕ)) → Items → Result (List PlainLabel) ℕ
labels_from rules n here no_items = Ok []
labels_from rules n here (item d ds) = step_then n (option_and_then (λ path. step_label rules path d) here) (λ l. labels_from rules (n + 1) (onward here l.name) ds)

-- A path is an array of steps, which are numbered from 1; it is no array: step 0.
abbrev pub labels_of : List PlainRule → Option Data → Result (List PlainLabel) ℕ
labels_of rules None = Err 0
labels_of rules (Some null) = Err 0
labels_of rules (Some (boolean b)) = Err 0
labels_of rules (Some (number n)) = Err 0
labels_of rules (Some (string s)) = Err 0
labels_of rules (Some (array ds)) = labels_from rules 1 (Some []) ds
labels_of rules (Some (object ms)) = Err 0

-- what a text names
abbrev pub user_path : List PlainRule → List ℕ → Result (List PlainLabel) ℕ
user_path rules bytes = labels_of rules (read bytes)

-- ---- what every path that is read is

-- An element has a rule, and a key value for each of its key paths. An attribute is the last step, stands behind an
-- element that is not at the frontier, and has no key values.
pub record HasRule (rules : List PlainRule) (path : List (List ℕ)) (t : List ℕ) (keys : List PlainKey) (more : Type 0) : Type 0 where
  pub rule : PlainRule
  pub is : rule_of rules path t ≡ Some rule
  pub count : length keys ≡ length rule.paths
  pub others : more

pub record IsLast (rules : List PlainRule) (path : List (List ℕ)) (keys : List PlainKey) (others : List PlainLabel) : Type 0 where
  pub behind : path ≢ []
  pub above : is_frontier rules path ≡ false
  pub unkeyed : keys ≡ []
  pub last : others ≡ []

abbrev pub NameHasRule : List PlainRule → List (List ℕ) → PlainName → List PlainKey → List PlainLabel → Type 0 → Type 0
NameHasRule rules path (attr n) keys others more = IsLast rules path keys others
NameHasRule rules path (tag t) keys others more = HasRule rules path t keys more

abbrev pub path_behind : List (List ℕ) → PlainName → List (List ℕ)
path_behind path (attr n) = path
path_behind path (tag t) = below path t

abbrev pub HaveRules : List PlainRule → List (List ℕ) → List PlainLabel → Type 0
HaveRules rules path [] = ⊤
HaveRules rules path (l ∷ ls) = NameHasRule rules path l.name l.keys ls (HaveRules rules (path_behind path l.name) ls)
