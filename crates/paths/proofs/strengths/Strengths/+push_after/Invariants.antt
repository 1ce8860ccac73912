use Rattle.paths.proofs.strengths.Strengths.+push_after.Given as goal

abbrev pub decreases-push_after : goal.decreases-push_after
decreases-push_after l = l.limit
