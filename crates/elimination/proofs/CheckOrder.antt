-- What the calls answer, by the check that finds a fault first: 15, then 6, then 7 and 8. A record within all of its
-- limits has its generators within theirs.
use Rattle.std.specs.Prelude.{Option, Some, None}
use mathlib.Core.Bool.{Bool, true, false, not}
use mathlib.Core.List.{List, []}
use mathlib.Core.Path.{◌≡◌, ap, sym, ◌∙◌}
use Prim.Native.Nat.{ℕ}
use lib.ListN.{take}
use Rattle.pauli.specs.declared.Pauli.{Pauli}
use Rattle.code_record.specs.declared.Code.{Code}
use Rattle.refusals.specs.declared.Refusal.{Refusal}
use Rattle.code_record.specs.Record.{first_generator_at, generators, generators_at, within_limits, limits_fault}
use Rattle.refusals.specs.Refusals.{refuse_if, ◌then◌}
use Rattle.record_limits.specs.Generators.{generators_within}
use Rattle.record_limits.proofs.GeneratorLimits.{record-generators}
use Rattle.stabilizer.specs.Canonical.{canonical_generators}
use Rattle.stabilizer.specs.Checks.{first_fault, clash, dependence, generator_fault, group_fault}
use Rattle.elimination.specs.declared.Elimination.{Elimination}
use Rattle.elimination.specs.Answers.{eliminated, independence, rows_elimination, elimination}

module _ (n r : ℕ) (g : List Pauli) where
  answered : Option Refusal → Elimination
  answered fault = eliminated fault n (canonical_generators n (take r g))

  pub outside-limits : generators_within n r g ≡ false
      → eliminated (Some Refusal.RecordLimits) 0 [] ≡ rows_elimination n r g
  unfolding rows_elimination refuse_if ◌then◌ eliminated answered
  outside-limits outside =
      ap (λ t. answered (refuse_if (not t) Refusal.RecordLimits then generator_fault first_generator_at (take r g)))
      (sym outside)

  module _ (within : generators_within n r g ≡ true) where
    -- What 6 finds comes first, then what 7 and 8 find.
    found : {fault : Option Refusal} → fault ≡ first_fault clash [] first_generator_at (take r g)
        → answered (fault then first_fault dependence [] first_generator_at (take r g)) ≡ rows_elimination n r g
    unfolding rows_elimination refuse_if ◌then◌ generator_fault answered
    found e =
        ap (λ fault. answered (fault then first_fault dependence [] first_generator_at (take r g))) e
        ∙ ap (λ t. answered (refuse_if (not t) Refusal.RecordLimits then generator_fault first_generator_at (take r g)))
        (sym within)

    pub clashing : {refusal : Refusal} → Some refusal ≡ first_fault clash [] first_generator_at (take r g)
        → eliminated (Some refusal) 0 [] ≡ rows_elimination n r g
    unfolding ◌then◌ eliminated answered
    clashing known = found known

    pub clash-free : None ≡ first_fault clash [] first_generator_at (take r g)
        → independence n (take r g) ≡ rows_elimination n r g
    unfolding ◌then◌ independence answered
    clash-free known = found known

-- ---- of a record

module _ (c : Code) where
  pub record-outside : within_limits c ≡ false → eliminated (Some Refusal.RecordLimits) 0 [] ≡ elimination c
  unfolding elimination group_fault limits_fault refuse_if ◌then◌ eliminated
  record-outside outside =
      ap (λ t. eliminated (refuse_if (not t) Refusal.RecordLimits then generator_fault (generators_at c) (generators c))
      c.n (canonical_generators c.n (generators c))) (sym outside)

  pub record-within : within_limits c ≡ true → rows_elimination c.n c.r c.g ≡ elimination c
  unfolding rows_elimination elimination group_fault limits_fault generators generators_at
  record-within within = ap of_test (record-generators c within) ∙ ap of_test (sym within)
    where
      of_test : Bool → Elimination
      of_test t =
          eliminated (refuse_if (not t) Refusal.RecordLimits then generator_fault first_generator_at (take c.r c.g))
          c.n (canonical_generators c.n (take c.r c.g))
