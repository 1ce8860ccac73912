-- The counts of the struck file.
use Rattle.std.proofs.Common.{◌≡◌, ℕ, ◌<◌, Bool, true, List, [], length, get_or, sym, ◌∙◌}
use Rattle.ballots.specs.Format.{candidates_in, ballots_in, ballots_of}
use Rattle.ballots.specs.Ballots.{unranked, over}
use Rattle.ballots.specs.Laws.{KeepsRanks}
use Rattle.ballots.specs.Strikes.{new_number, struck_file}
use Rattle.ballots.proofs.StruckFiles.{strike_keeps_ranks, length_ballots}
use Rattle.pairwise.specs.Laws.{StruckCounts}
use Rattle.pairwise.proofs.Preferences.{count_same}

-- a ballot of the struck file puts one that stays over another exactly if that of the file itself does
struck_over :
    (keep : ℕ → Bool) (bs : List ℕ) (j x y : ℕ) → KeepsRanks keep bs → j < ballots_in bs →
    x < candidates_in bs → y < candidates_in bs → keep x ≡ true → keep y ≡ true →
    over unranked (get_or (ballots_of (struck_file keep bs)) j []) (new_number keep x) (new_number keep y)
    ≡ over unranked (get_or (ballots_of bs) j []) x y
unfolding over
struck_over keep bs j x y s h xv yv kx ky = rw (s.ranks j x h xv kx, s.ranks j y h yv ky)

pub struck_counts : StruckCounts
struck_counts keep bs x y none xv yv kx ky =
    let s = strike_keeps_ranks keep bs x none xv kx in
    let many : length (ballots_of (struck_file keep bs)) ≡ ballots_in bs = length_ballots (struck_file keep bs) ∙ s.ballots in
    count_same unranked (new_number keep x) (new_number keep y) x y (ballots_of (struck_file keep bs)) (ballots_of bs)
    (length_ballots bs ∙ sym many) (λ j h. struck_over keep bs j x y s (rw many at h) xv yv kx ky)
