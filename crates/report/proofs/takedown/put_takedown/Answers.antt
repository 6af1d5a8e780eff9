-- `report::takedown::put_takedown` meets its contract: the floors, and then the rows that govern. Assumes nothing.
use Rattle.text.proofs.Puts.{put_then}
use Rattle.column.specs.Seen.{column_seen}
use Rattle.sheet.specs.Seen.{sheet_seen}
use Rattle.sheet.proofs.Seen.{seen_keeps}
use Rattle.report.specs.Report.{takedown_of}
use Rattle.report.proofs.Live.{seven_within}
use Rattle.report.proofs.Table.{table_lines_lem}
use Rattle.report.proofs.takedown.put_takedown.Goals as goal

pub put_governing-requires : goal.put_governing-requires
put_governing-requires c = rw c.newtons_with.ensures (seven_within (sheet_seen c.args.sheet) (seen_keeps c.args.sheet c.requires))

pub returns : goal.returns
unfolding takedown_of
returns c = rw (c.put_governing.ensures, c.newtons_with.ensures, c.put_floors.ensures, c.work_out-lowest.ensures.workings, table_lines_lem (column_seen c.args.sheet.column)) (put_then _ _ _ _)
