-- `sheet_lines::read_fields` meets its contract: what is read so far and what follows is what the whole line gives. Assumes nothing.
use Rattle.std.proofs.Common.{◌≡◌, sym, ◌∙◌, ap, List, [], ◌∷◌, map, ℕ, ◌+◌, ◌-◌, ◌≤◌, ◌<◌, arith, add-one, length, take, drop, get_or, drop_of_length-le, length-drop, length-set, take-suc-set, take_all, drop-cons, eq-eqb, eqb-true, Some, Bor}
use Rattle.std.proofs.lemmas.Bool.{eqb-false}
use Rattle.sheet_lines.specs.Form.{fields_from}
use Rattle.sheet_lines.proofs.AtPlace.{small_is, fields_none, fields_end}
use Rattle.sheet_lines.proofs.Moved.{fields_more, fields_left}
use Rattle.sheet_lines.proofs.read_fields.Goals as goal

-- the texts of lent keys
abbrev texts : List (Bor (List ℕ)) → List (List ℕ)
texts keys = map (λ key. key.now) keys

-- the next key, and those after it
keys_next : (keys : List (Bor (List ℕ))) (i : ℕ) (d : Bor (List ℕ)) → i < length keys → texts (drop i keys) ≡ (get_or keys i d).now ∷ texts (drop (i + 1) keys)
keys_next keys i d h = rw (add-one, drop-cons keys i d)

-- the rest of a text, as a part of it
part_rest : (n : ℕ) (l : List ℕ) → take (length l - n) (drop n l) ≡ drop n l
part_rest n l = take_all (length l - n) (drop n l) (omega (arith, length-drop n l))

pub bounds-keys-i : goal.bounds-keys-i
bounds-keys-i g c = omega (arith, c.requires)

pub returns-in_err-field : goal.returns-in_err-field
returns-in_err-field g c =
    let l = c.loop-i in
    let t : l.i < length c.args.keys.now = omega (arith, c.requires) in
    let k = keys_next c.args.keys.now l.i _ t in
    c.from_residual.ensures ∙ sym (l.invariant.same ∙ (ap (λ (ks : List (List ℕ)). fields_from (take l.i l.numbers) ks l.rest.now 0) k ∙ fields_none (take l.i l.numbers) (_ ∷ texts (drop (l.i + 1) c.args.keys.now)) l.rest.now 0 0 (omega arith) (sym c.field_at.ensures.value ∙ c.in_err-field.was)))

pub slice_bounds-rest-count : goal.slice_bounds-rest-count
slice_bounds-rest-count g c = (small_is c.field_at.ensures.small c.in_ok-field.was).1

pub slice_bounds-rest-start : goal.slice_bounds-rest-start
slice_bounds-rest-start g c = (small_is c.field_at.ensures.small c.in_ok-field.was).1

pub loop-i-preserved : goal.loop-i-preserved
loop-i-preserved g c =
    let l = c.loop-i in
    let v = c.in_ok-field.field.value in
    let p = c.in_ok-field.field.next in
    let t : l.i < length c.args.keys.now = omega (arith, c.requires) in
    let k = keys_next c.args.keys.now l.i _ t in
    let more = fields_more (take l.i l.numbers) _ (texts (drop (l.i + 1) c.args.keys.now)) l.rest.now v p (sym c.field_at.ensures.value ∙ c.in_ok-field.was) (small_is c.field_at.ensures.small c.in_ok-field.was).1 in
    record {
      same = l.invariant.same ∙ (ap (λ (ks : List (List ℕ)). fields_from (take l.i l.numbers) ks l.rest.now 0) k ∙ more) ∙ rw (part_rest p l.rest.now, add-one l.i, take-suc-set l.numbers l.i v (omega (arith, l.invariant.count)));
      count = length-set l.numbers l.i v ∙ l.invariant.count;
    }

-- after the last key nothing may be left
after_all : (keys : List (Bor (List ℕ))) (numbers rest : List ℕ) (i : ℕ) → length numbers ≤ i → length keys ≤ i
    → fields_from (take i numbers) (texts (drop i keys)) rest 0 ≡ fields_from numbers [] rest 0
after_all keys numbers rest i h k = rw (take_all i numbers h, drop_of_length-le keys {i = i} k)

-- and where nothing is, the numbers are all there
nothing_left : (numbers rest : List ℕ) → length rest ≡ 0 → fields_from numbers [] rest 0 ≡ Some numbers
nothing_left numbers rest h = fields_end numbers [] rest 0 0 (omega arith) ∙ rw (eq-eqb 0 (length rest) (sym h))

pub returns-then-not-is_empty : goal.returns-then-not-is_empty
returns-then-not-is_empty g c =
    let l = c.loop-i in
    let left = fields_left l.numbers l.rest.now (eqb-false _ _ (sym c.is_empty.ensures ∙ c.if-not-is_empty.true)) in
    sym (l.invariant.same ∙ (after_all c.args.keys.now l.numbers l.rest.now l.i (omega (arith, l.invariant.count)) (omega (arith, c.requires)) ∙ left))

pub returns : goal.returns
returns g c =
    let l = c.loop-i in
    let all = nothing_left l.numbers l.rest.now (eqb-true _ _ (sym c.is_empty.ensures ∙ c.if-not-is_empty.false)) in
    sym (l.invariant.same ∙ (after_all c.args.keys.now l.numbers l.rest.now l.i (omega (arith, l.invariant.count)) (omega (arith, c.requires)) ∙ all))
