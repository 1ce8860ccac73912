-- Counts to which a ballot was added count one ballot more.
use Rattle.std.proofs.Common.{◌≡◌, ℕ, List, [], ◌∷◌, ◌++◌, ap, ◌∙◌}
use Rattle.ballots.specs.Ballots.{ranks_of, unranked}
use Rattle.pairwise.specs.declared.pairwise.Pairwise.{Pairwise}
use Rattle.pairwise.specs.Counts.{count}
use Rattle.pairwise.specs.Grids.{cell, within, number_for, IsZeroOutside}
use Rattle.pairwise.specs.Pairwise.{OneMore}
use Rattle.pairwise.proofs.Cells.{number_for-within, zero_outside}
use Rattle.pairwise.proofs.Preferences.{CountedBy, counted_push}

module _ (v : ℕ) (t u : Pairwise) (ps : List (List ℕ)) (p : List ℕ) (more : OneMore t p u) (few : t.counts.candidates ≡ v)
    (counts : number_for t.counts ≡ within v (count unranked ps)) (outside : IsZeroOutside t.counts) where
  counted : CountedBy u.counts.candidates (ps ++ ranks_of p ∷ []) (cell u.counts.cells)
  counted = rw more.candidates (rw few (counted_push v ps p (cell t.counts.cells) (cell u.counts.cells) (more.long ∙ few)
      (λ x y xm ym. outside x y xm ym ∙ ap (λ f. f x y) counts) more.counts))

  pub counts-more : number_for u.counts ≡ within v (count unranked (ps ++ ranks_of p ∷ []))
  counts-more =
      number_for-within u.counts.candidates u.counts.cells (count unranked (ps ++ ranks_of p ∷ [])) u.counts.few counted
      ∙ ap (λ n. within n (count unranked (ps ++ ranks_of p ∷ []))) (more.candidates ∙ few)

  pub outside-more : IsZeroOutside u.counts
  outside-more = zero_outside u.counts.candidates u.counts.cells (count unranked (ps ++ ranks_of p ∷ [])) u.counts.few counted
