-- A column that is lent in its parts is a reached one, and a reached one may be lent.
-- Assumes nothing.
use Rattle.std.proofs.Common.{◌≡◌, refl, sym, ◌∙◌, ap, List, [], ◌∷◌, ◌++◌, ◌≤◌, arith, length, take, length-take-le}
use Rattle.std.proofs.Math.Logic.{∥∥₁_elim}
use Rattle.std.proofs.Props.{props}
use Rattle.column.specs.declared.Line.{Line}
use Rattle.column.specs.declared.Member.{Member}
use Rattle.column.specs.declared.Column.{Column}
use Rattle.column.specs.declared.lent.ColumnRef.{ColumnRef}
use Rattle.column.specs.Accepted.{entry_number, joined, accepted_from, accepted}
use Rattle.column.specs.Column.{lines_of, column_of, opened_of, Reached, after}
use Rattle.column.specs.Seen.{column_seen}
use Rattle.column.specs.inner.Sound.{Held}
use Rattle.column.specs.theorems.InTurn.{AcceptedInTurn, none, more}
use Rattle.column.proofs.InTurn.{reached_in_turn}
use Rattle.column.proofs.Reach.{after_opened, reached_column, reached_is, sound}

accepted_append : (m : Member) (ls es : List Line) (l : Line) → accepted_from m ls (es ++ (l ∷ [])) ≡ joined m (accepted_from m ls es) l
unfolding accepted_from
accepted_append m ls [] l = refl
accepted_append m ls (e ∷ es) l = accepted_append m (joined m ls e) es l

joins : (m : Member) (ls : List Line) (l : Line) → entry_number m ls l ≡ 0 → joined m ls l ≡ ls ++ (l ∷ [])
unfolding joined
joins m ls l e = rw e refl

-- lines that were accepted in turn are all accepted when they are entered again
pub accepted_again : {m : Member} {ls : List Line} → AcceptedInTurn m ls → accepted m ls ≡ ls
unfolding accepted_from
accepted_again none = refl
accepted_again {m} (more ls l a e) =
    accepted_append m [] ls l ∙ (ap (λ (k : List Line). joined m k l) (accepted_again a) ∙ joins m ls l e)

-- the member of a reached column opens
pub reached_opens : {c : Column} → Reached c → (opened_of c.member).number ≡ 0
unfolding column_of
reached_opens r = ap (λ (d : Column). (opened_of d.member).number) (reached_column r) ∙ r.opened

-- the column of a member after these lines, entered again
entered_again : Column → Column
entered_again c = after (opened_of c.member).column (lines_of c)

-- the lines of a reached column, entered again, give it
reached_again : {c : Column} → Reached c → entered_again c ≡ c
unfolding entered_again
reached_again {c} r =
    after_opened c.member (lines_of c) (reached_opens r)
    ∙ (ap (column_of c.member) (accepted_again (reached_in_turn r)) ∙ sym (reached_is r))

-- so a column of which only that it is reached is known, and not how, is reached by its lines
pub reached_anyhow : {c : Column} → ∥ Reached c ∥₁ → Reached c
unfolding entered_again
reached_anyhow {c} r =
    let again = entered_again c in
    let opens : (opened_of c.member).number ≡ 0 = ∥∥₁_elim r (Prim.hlevel props) reached_opens in
    let counted : again.count ≡ c.count = ∥∥₁_elim r (Prim.hlevel props) (λ s. ap (λ (d : Column). d.count) (reached_again s)) in
    let held : again.held ≡ c.held = ∥∥₁_elim r (Prim.hlevel props) (λ s. ap (λ (d : Column). d.held) (reached_again s)) in
    let its : again.member.code ≡ c.member.code = ∥∥₁_elim r (Prim.hlevel props) (λ s. ap (λ (d : Column). d.member.code) (reached_again s)) in
    record {
      member = c.member;
      entries = lines_of c;
      opened = opens;
      is = λ i. record { member = record { code = sym its i }; count = sym counted i; held = sym held i };
    }

-- a column that is lent is a reached one
pub seen_reached : (c : ColumnRef) → Reached (column_seen c)
seen_reached c = reached_anyhow c.reached

-- so its places hold as many lines as it counts, each within its limits
pub seen_held : (c : ColumnRef) → Held c.held.now c.count
seen_held c = (sound (seen_reached c)).held

pub seen_few : (c : ColumnRef) → c.count ≤ 256
seen_few c = (seen_held c).few

-- there are no more of the numbers that hold them
pub numbers_few : (c : ColumnRef) → length (take c.count c.held.now) ≤ 256
numbers_few c =
    let h = seen_held c in
    omega (arith, length-take-le c.count c.held.now (omega (arith, h.few, h.size)), h.few)
