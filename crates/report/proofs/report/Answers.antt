-- `report::report` meets its contract: a sheet that is read is put whole, of a refused one nothing. Assumes nothing.
use Rattle.std.proofs.Common.{◌≡◌, refl, ap, List, [], ℕ, ◌≤◌, arith, length, rules}
use Rattle.std.specs.Prelude.{None}
use Rattle.text.specs.Put.{fronted}
use Rattle.text.proofs.Puts.{Front, put_front}
use Rattle.refusal.specs.Refusal.{number_of}
use Rattle.refusal.proofs.Said.{number_positive}
use Rattle.column.specs.Pasted.{number_or_0}
use Rattle.sheet.specs.Sheet.{reading_told}
use Rattle.report.specs.Report.{takedown_of, put_of, reported_told}
use Rattle.report.proofs.Lengths.{takedown_most}
use Rattle.report.proofs.Prints.{put_read, put_refused, reported}
use Rattle.report.proofs.report.Goals as goal
use Rattle.report.proofs.report.Goals.{In-Some, After-put_takedown}

-- the number of the refusal, which is not 0
number : (c : In-Some) → number_or_0 c.read-reading.result.refusal ≡ number_of c.in-Some.refusal
unfolding number_or_0
number c = ap number_or_0 c.in-Some.is

-- of a refused sheet nothing is put
none : (c : In-Some) → [] ≡ put_of c.args.text.now
unfolding reading_told
none c = put_refused c.args.text.now c.read-reading.ensures.read (omega (arith, number c, number_positive c.in-Some.refusal))

pub returns-in-Some-clause-reported : goal.returns-in-Some-clause-reported
unfolding reported_told reading_told
returns-in-Some-clause-reported c =
    let s = (goal.at.returns-in-Some-clause-reported c).In-Some in
    rw (← number s) (reported c.args.text.now c.read-reading.ensures.read (ap length (none s)))

pub returns-in-Some-clause-put : goal.returns-in-Some-clause-put
unfolding fronted
returns-in-Some-clause-put c = ap (λ (t : List ℕ). fronted t c.args.out.now) (none (goal.at.returns-in-Some-clause-put c).In-Some)

-- the take-down of a sheet that is read is put, and finds room
whole : (c : After-put_takedown) → Front c.args.out.now (put_of c.args.text.now) c.put_takedown.new.output.buffer.now c.put_takedown.new.output.at
unfolding reading_told number_or_0
whole c =
    let sheet = c.read-reading.result.sheet in
    let size : 4096 ≤ length c.args.out.now = search rules in
    let none : c.read-reading.result.refusal ≡ None = c.in_default.is in
    let most = takedown_most sheet (c.read-reading.ensures.keeps none) in
    let put = rw c.lend.ensures at c.put_takedown.ensures in
    rw (← put_read c.args.text.now c.read-reading.ensures.read (ap number_or_0 none)) (put_front _ (takedown_of sheet) put refl (omega (arith, most)))

pub returns-clause-reported : goal.returns-clause-reported
unfolding reported_told reading_told number_or_0
returns-clause-reported c = rw (← ap number_or_0 c.in_default.is) (reported c.args.text.now c.read-reading.ensures.read (whole (goal.at.returns-clause-reported c).After-put_takedown).ends)

pub returns-clause-put : goal.returns-clause-put
returns-clause-put c = (whole (goal.at.returns-clause-put c).After-put_takedown).is

pub returns-clause-prefix_len : goal.returns-clause-prefix_len
returns-clause-prefix_len c = (whole (goal.at.returns-clause-prefix_len c).After-put_takedown).counts
