-- There is one strength of each pair, and one grid of them.
use Rattle.std.proofs.Common.{◌≡◌, ℕ, sym, ap, ◌∙◌, inl, inr, arith}
use Rattle.std.proofs.Math.Path.{fun_ext}
use Rattle.std.proofs.lemmas.Bool.{cases_Bool, cases_lt, both_ways}
use Rattle.std.proofs.lemmas.Bool.Decides.{nat_tests}
use Rattle.pairwise.specs.declared.grid.Grid.{Grid}
use Rattle.pairwise.specs.Grids.{number_for, rows, table}
use Rattle.paths.specs.Middles.{pair, strength}
use Rattle.paths.specs.Strengths.{StrengthOf, GridOf}
use Rattle.paths.specs.inner.Fields.{HasStrengths}
use Rattle.paths.proofs.Via.{via_strongest}
use Rattle.paths.proofs.Pairs.{pair_two, two_pair, pair_no, strength_is, strength_strongest}

module _ (w : ℕ → ℕ → ℕ) (n : ℕ) where
  -- the strength of each two candidates is that of the strongest path
  pub strength_of : (x y : ℕ) → StrengthOf w n x y (strength w n x y)
  strength_of x y = record {
    strongest = λ p. strength_strongest w n x y (two_pair n x y p.first p.second p.apart);
    none = λ apart. rw (pair_no n x y apart);
  }

  -- and there is no other
  pub is_strength : {x y s : ℕ} → StrengthOf w n x y s → s ≡ strength w n x y
  is_strength {x} {y} {s} g = elim (cases_Bool (pair n x y)) [
    | inl e ↦
        let p = pair_two n x y e in
        (via_strongest w n x y p.first p.second).1 s (g.strongest p) ∙ sym (strength_is w n x y e)
    | inr e ↦ g.none (λ p. both_ways (pair n x y) e (two_pair n x y p.first p.second p.apart)) ∙ rw e
  ]

  -- where the cells of a grid have the strengths, so have its numbers, and it is the grid of them
  module _ (g : Grid) (same : g.candidates ≡ n) (h : HasStrengths w n g.cells) where
    pub number_is : (x y : ℕ) → number_for g x y ≡ strength w n x y
    number_is x y = rw same (elim (cases_lt x n) [
      | inl xn ↦ elim (cases_lt y n) [
        | inl yn ↦ let few = g.few in let e = h x y (omega arith) (omega arith) in grind (arith, nat_tests)
        | inr yn ↦ grind (arith, nat_tests)
      ]
      | inr xn ↦ grind (arith, nat_tests)
    ])

    pub number_strength : (x y : ℕ) → StrengthOf w n x y (number_for g x y)
    number_strength x y = rw (number_is x y) (strength_of x y)

    pub grid_of : GridOf w n g
    grid_of = record {
      candidates = same;
      each = number_strength;
      outside = λ x y xl yl. h x y xl yl ∙ sym (number_is x y);
    }

    pub table_is : table g ≡ rows n (strength w n)
    table_is =
        ap (λ f. rows g.candidates f) (fun_ext (λ x. fun_ext (number_is x)))
        ∙ ap (λ v. rows v (strength w n)) same

  -- the numbers of a grid of the strengths, as a function
  pub numbers_are : {g : Grid} → GridOf w n g → number_for g ≡ strength w n
  numbers_are h = fun_ext (λ x. fun_ext (λ y. is_strength (h.each x y)))
