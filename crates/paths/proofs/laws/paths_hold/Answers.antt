use Rattle.paths.proofs.Parts.{row_shows}
use Rattle.paths.proofs.Rows.{path_shown}
use Rattle.paths.proofs.laws.paths_hold.Goals as goal

pub returns : goal.returns
returns c = record { row = row_shows; path = path_shown }
