-- The parts that are put one after another are the text of the sheet.
-- Assumes nothing.
use Rattle.std.proofs.Common.{◌≡◌, refl, sym, ◌∙◌, ap, List, [], ◌∷◌, ◌++◌, append-nil, append_assoc, map, ℕ, suc, ◌<◌, arith, ℤ, pos, length, get_or}
use Rattle.text.specs.Text.{bytes_of, joined, decimal, signed_parts, signed_decimal}
use Rattle.text.specs.Put.{field_parts}
use Rattle.text.specs.Lines.{newline, ended, text_of}
use Rattle.text.proofs.Puts.{joined_append}
use Rattle.text.proofs.Lines.{text_append}
use Rattle.column.specs.declared.Line.{Line}
use Rattle.column.specs.Column.{lines_of}
use Rattle.column.specs.inner.Sound.{line_at, lines_before}
use Rattle.column.proofs.Lines.{between_more}
use Rattle.sheet_lines.specs.Form.{effect_count, effect_keys}
use Rattle.sheet_lines.specs.LineText.{fields_text, member_text, floor_text, effect_text}
use Rattle.sheet.specs.declared.Sheet.{Sheet}
use Rattle.sheet_text.specs.Written.{effect_lines, lines_in, written}
use Rattle.sheet_writer.specs.inner.Parts.{member_parts, line_parts, floors_parts, effect_parts, effects_parts, sheet_parts}

-- a line of numbers behind their keys, ended
fields_text_lem : (keys : List (List ℕ)) (ns : List ℕ) → joined (field_parts keys ns) ≡ ended (fields_text keys ns)
unfolding field_parts fields_text joined
fields_text_lem [] ns = refl
fields_text_lem (key ∷ keys) [] = refl
fields_text_lem (key ∷ keys) (n ∷ ns) =
    let t = fields_text keys ns in
    let e : List ℕ = newline ∷ [] in
    ap (λ (x : List ℕ). key ++ (decimal n ++ x)) (fields_text_lem keys ns)
    ∙ (ap (λ (x : List ℕ). key ++ x) (sym (append_assoc (decimal n) t e)) ∙ sym (append_assoc key (decimal n ++ t) e))

floors_text : (xs : List Line) → joined (floors_parts xs) ≡ text_of (map floor_text xs)
unfolding floors_parts line_parts joined text_of floor_text
floors_text [] = refl
floors_text (x ∷ xs) = joined_append (line_parts x) (floors_parts xs) ∙ rw (fields_text_lem _ _, floors_text xs)

-- one floor line more
floors_more : (xs : List Line) (x : Line) → floors_parts (xs ++ (x ∷ [])) ≡ floors_parts xs ++ line_parts x
unfolding floors_parts
floors_more [] x = append-nil (line_parts x)
floors_more (y ∷ xs) x = rw (floors_more xs x) (sym (append_assoc (line_parts y) (floors_parts xs) (line_parts x)))

pub lines_next : (places : List ℕ) (i : ℕ) → i < length places
    → floors_parts (lines_before places (suc i)) ≡ floors_parts (lines_before places i) ++ line_parts (line_at places i)
lines_next places i h = ap floors_parts (between_more places 0 i (omega arith) h) ∙ floors_more (lines_before places i) (line_at places i)

-- the line of an effect, and all of them
effect_text_lem : (key : List ℕ) (z : ℤ) → joined (effect_parts key z) ≡ ended (effect_text key z)
unfolding effect_parts effect_text joined
effect_text_lem key z =
    ap (λ (x : List ℕ). key ++ x) (joined_append (signed_parts z) ((newline ∷ []) ∷ [])) ∙ sym (append_assoc key (signed_decimal z) (newline ∷ []))

effects_text : (keys : List (List ℕ)) (zs : List ℤ) → joined (effects_parts keys zs) ≡ text_of (effect_lines keys zs)
unfolding effects_parts effect_lines joined text_of
effects_text [] zs = refl
effects_text (key ∷ keys) [] = refl
effects_text (key ∷ keys) (z ∷ zs) = joined_append (effect_parts key z) (effects_parts keys zs) ∙ rw (effect_text_lem key z, effects_text keys zs)

-- six numbers
pub six_list : (zs : List ℤ) → length zs ≡ effect_count
    → (get_or zs 0 (pos 0) ∷ get_or zs 1 (pos 0) ∷ get_or zs 2 (pos 0) ∷ get_or zs 3 (pos 0) ∷ get_or zs 4 (pos 0) ∷ get_or zs 5 (pos 0) ∷ []) ≡ zs
six_list (a ∷ (b ∷ (c ∷ (d ∷ (e ∷ (f ∷ [])))))) h = refl
six_list (a ∷ (b ∷ (c ∷ (d ∷ (e ∷ (f ∷ (g ∷ zs))))))) h = absurd (omega arith)
six_list (a ∷ (b ∷ (c ∷ (d ∷ (e ∷ []))))) h = absurd (omega arith)
six_list (a ∷ (b ∷ (c ∷ (d ∷ [])))) h = absurd (omega arith)
six_list (a ∷ (b ∷ (c ∷ []))) h = absurd (omega arith)
six_list (a ∷ (b ∷ [])) h = absurd (omega arith)
six_list (a ∷ []) h = absurd (omega arith)
six_list [] h = absurd (omega arith)

-- the six effects, one after another
pub effects_parts_lem : (zs : List ℤ) → length zs ≡ effect_count
    → effects_parts effect_keys zs
    ≡ effect_parts (bytes_of "dead=") (get_or zs 0 (pos 0))
    ++ (effect_parts (bytes_of "roof=") (get_or zs 1 (pos 0))
    ++ (effect_parts (bytes_of "snow=") (get_or zs 2 (pos 0))
    ++ (effect_parts (bytes_of "rain=") (get_or zs 3 (pos 0))
    ++ (effect_parts (bytes_of "wind=") (get_or zs 4 (pos 0))
    ++ effect_parts (bytes_of "quake=") (get_or zs 5 (pos 0))))))
unfolding effects_parts effect_keys
effects_parts_lem zs h = ap (effects_parts effect_keys) (sym (six_list zs h)) ∙ rw (append-nil (effect_parts (bytes_of "quake=") (get_or zs 5 (pos 0))))

-- the whole sheet
pub sheet_text : (s : Sheet) → joined (sheet_parts s) ≡ written s
unfolding sheet_parts written lines_in member_parts member_text text_of
sheet_text s =
    let fs = floors_parts (lines_of s.column) in
    let es = effects_parts effect_keys s.effects in
    joined_append (member_parts s.column.member.code) (fs ++ es)
    ∙ rw (fields_text_lem _ _, joined_append fs es, floors_text (lines_of s.column), effects_text effect_keys s.effects, text_append (map floor_text (lines_of s.column)) (effect_lines effect_keys s.effects))
