-- Paper 01, "The sheet": the form of each line, given without its newline.
-- Assumes nothing.
use Rattle.std.specs.Prelude.{Bool, true, false, cond, ◌&&◌, List, [], ◌∷◌, ◌++◌, ℕ, ◌+◌, eqb, ltb, length, drop, get_or, Option, Some, None, option_map}
use Rattle.refusal.specs.Refusal.{number_of}
use Rattle.refusal.specs.declared.Refusal.TheVariants.{SheetMalformed}
use Rattle.refusal.specs.Said.{Said, gives, refused, nothing}
use Rattle.text.specs.Text.{bytes_of, minus}
use Rattle.newtons.specs.Effect.{signed}
use Rattle.column.specs.declared.Line.{Line}
use Rattle.column.specs.Line.{line}
use Rattle.sheet_lines.specs.declared.number.Read.{Read}
use Rattle.sheet_lines.specs.declared.Due.{Due}
use Rattle.sheet_lines.specs.declared.Due.TheVariants as D
use Rattle.sheet_lines.specs.declared.Form.{Form}
use Rattle.sheet_lines.specs.declared.Form.TheVariants.{Member, Floor, Effect}
use Rattle.sheet_lines.specs.Number.{number_at, begins, field_at}

-- 01, The sheet: the key of a member line
unfoldable pub member_keys : List (List ℕ)
member_keys = bytes_of "member=" ∷ []

-- 01, The sheet: `floor class load area`, "the four parted by one blank"
unfoldable pub floor_keys : List (List ℕ)
floor_keys = bytes_of "floor=" ∷ bytes_of " class=" ∷ bytes_of " load=" ∷ bytes_of " area=" ∷ []

-- 01, The sheet: `dead roof snow rain wind quake`, "one a line"
unfoldable pub effect_keys : List (List ℕ)
effect_keys = bytes_of "dead=" ∷ bytes_of "roof=" ∷ bytes_of "snow=" ∷ bytes_of "rain=" ∷ bytes_of "wind=" ∷ bytes_of "quake=" ∷ []

-- 01, The sheet: the last six lines; how many effects a sheet has
abbrev pub effect_count : ℕ
effect_count = 6

-- No part of the paper: goes on with a number and the place after it; without a number there is this
unfoldable pub with_number : {A : Type 0} → A → Option Read → (ℕ → ℕ → A) → A
with_number other (Some r) go = go r.value r.next
with_number other None go = other

-- 01, The sheet: the numbers behind some keys, one after another from a place to the end of the line; with these before them
unfoldable pub fields_from : List ℕ → List (List ℕ) → List ℕ → ℕ → Option (List ℕ)
fields_from done [] l at = cond (eqb at (length l)) (Some done) None
fields_from done (key ∷ keys) l at = with_number None (field_at key l at) λ n next. fields_from (done ++ (n ∷ [])) keys l next

-- 01, The sheet: `member`
unfoldable pub member_form : List ℕ → Option Form
member_form l = option_map (λ ns. Member (get_or ns 0 0)) (fields_from [] member_keys l 0)

-- 01, Member, line, floor: the line of "four decimal numbers"
unfoldable pub line_from : List ℕ → Line
line_from ns = line (get_or ns 0 0) (get_or ns 1 0) (get_or ns 2 0) (get_or ns 3 0)

-- 01, The sheet: a floor line
unfoldable pub floor_form : List ℕ → Option Form
floor_form l = option_map (λ ns. Floor (line_from ns)) (fields_from [] floor_keys l 0)

-- 01, The sheet: the number that ends a line; a minus sign stands "never before 0"
unfoldable pub effect_end : ℕ → List ℕ → ℕ → Bool → Option Form
effect_end k l at negative =
    with_number None (number_at l at) λ value next.
    cond (eqb next (length l)) (cond (negative && eqb value 0) None (Some (Effect k (signed negative value)))) None

-- 01, The sheet: the line of the effect at a place; "a minus sign may stand only in the last six"
unfoldable pub effect_form : ℕ → List ℕ → List ℕ → Option Form
effect_form k key l =
    cond (begins key l)
    (cond (begins (minus ∷ []) (drop (length key) l)) (effect_end k l (length key + 1) true) (effect_end k l (length key) false))
    None

-- 01, The sheet: before dead "no or more" floor lines come
unfoldable pub is_floor : ℕ → List ℕ → Bool
is_floor k l = cond (eqb k 0) (begins (get_or floor_keys 0 []) l) false

-- 01, The sheet: the line where the effect at a place is due; after the last nothing is
unfoldable pub later_form : ℕ → List ℕ → Option Form
later_form k l =
    cond (ltb k effect_count) (cond (is_floor k l) (floor_form l) (effect_form k (get_or effect_keys k []) l)) None

-- 01, The sheet: "in a fixed order", `member`; then no or more floor lines; then `dead roof snow rain wind quake`, one a line
unfoldable pub form_of : Due → List ℕ → Option Form
form_of D.Member l = member_form l
form_of (D.Effect k) l = later_form k l

-- 01, Where each language form belongs: the number and the values of each case of a form; 10 where it is "not the form above"
unfoldable pub said_form : Option Form → Said Form
said_form (Some f) = gives f
said_form None = refused (number_of SheetMalformed) nothing

-- 01, The sheet: what a line says where this is due, or 10: a member's code, the four numbers of a floor line, or the effect at
-- a place
unfoldable pub line_said : Due → List ℕ → Said Form
line_said due l = said_form (form_of due l)
