-- Entering in place, where the floor of the last line is known, is entering on the column that the parts make.
-- Assumes nothing.
use Rattle.std.proofs.Common.{◌≡◌, sym, ◌∙◌, ap, subst, List, [], ◌∷◌, ◌++◌, ℕ, ◌+◌, ◌≤◌, ◌<◌, length, slice_set, arith}
use Rattle.column.specs.declared.Line.{Line}
use Rattle.column.specs.declared.Member.{Member}
use Rattle.column.specs.declared.Column.{Column}
use Rattle.column.specs.Accepted.{last_floor, first_condition, entry_number}
use Rattle.column.specs.Column.{Outcome, lines_of, column_of, column_from, entered_of, Reached}
use Rattle.column.specs.Line.{packed}
use Rattle.column.specs.inner.Sound.{InLimits, Held}
use Rattle.column.proofs.Columns.{column_more}
use Rattle.column.proofs.Lines.{lines_length}
use Rattle.column.proofs.Reach.{no_condition, entered_accepted, entered_refused, sound, reached_is, reached_entered}

module _ {m : Member} {n : ℕ} {places : List ℕ} (reached : Reached (column_from m n places)) where
  col : Column
  col = column_from m n places

  -- what the private functions ask of the places
  pub reached_held : Held places n
  reached_held = (sound reached).held

  -- a count has room for them
  pub reached_few : n ≤ 256
  reached_few = reached_held.few

  module _ {last : ℕ} (known : last ≡ last_floor (lines_of (column_from m n places))) (l : Line) where
    -- the number that was found is that of the entry
    entry : first_condition m n last l ≡ entry_number m (lines_of col) l
    unfolding entry_number col lines_of
    entry =
        let ok = reached_held in
        let count : n ≡ length (lines_of col) = sym (lines_length col (omega (arith, ok.few, ok.size))) in
        ap (λ (k : ℕ). first_condition m n k l) known ∙ ap (λ (k : ℕ). first_condition m k (last_floor (lines_of col)) l) count

    -- where a condition holds the column stays
    pub refused_in_place : {k : ℕ} → 1 ≤ k → k ≡ first_condition m n last l → record { number = k; column = column_from m n places } ≡ entered_of (column_from m n places) l
    unfolding col
    refused_in_place some is = sym (entered_refused col l _ some (sym (is ∙ entry)))

    -- where none does there is room for the line, it is within its limits, and it joins the lines
    room : 0 ≡ first_condition m n last l → (n < 256) × InLimits l
    room is = no_condition m n last l (sym is)

    pub joined_in_place : 0 ≡ first_condition m n last l
        → record { number = 0; column = column_from m (n + 1) (slice_set places n (packed l)) } ≡ entered_of (column_from m n places) l
    unfolding col column_of
    joined_in_place is =
        let ok = reached_held in
        let few : length (lines_of col) < 256 = omega (arith, lines_length col (omega (arith, ok.few, ok.size)), (room is).0) in
        let put : column_from m (n + 1) (slice_set places n (packed l)) ≡ column_of m (lines_of col ++ (l ∷ [])) =
        ap (λ (d : Column). column_from m (d.count + 1) (slice_set d.held d.count (packed l))) (reached_is reached) ∙ column_more m (lines_of col) l few in
        rw put (sym (entered_accepted col l (sym (is ∙ entry))))

    -- so the column that the parts then make is reached
    pub joined_reached : 0 ≡ first_condition m n last l → Reached (column_from m (n + 1) (slice_set places n (packed l)))
    joined_reached is = subst Reached (ap (λ (o : Outcome). o.column) (sym (joined_in_place is))) (reached_entered l reached)
