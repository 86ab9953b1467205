-- The first string of a list in order that passes a test is the first of all that meet the list's condition and pass;
-- where none is found there is none; and those that pass are a list in order again. One walk along the list: a string
-- that passes has the others behind it, and one that does not is passed over.
use Rattle.letters.proofs.Options.{some-none}
use Rattle.std.specs.Prelude.{Option, Some, None}
use Rattle.std.proofs.lemmas.Option.{none-some, same_Some}
use mathlib.Core.Bool.{Bool, true, false, true≢false}
use mathlib.Core.List.Pairwise
use mathlib.Core.List.{List, [], ◌∷◌, Mem, Pairwise, rel_of_Pairwise-cons}
use mathlib.Core.List.{mem-cast, mem-cons_self, mem-cons_of_mem, mem_of_ne_of_mem, not-mem-nil, mem-filter}
use mathlib.Core.Logic.Iff
use mathlib.Core.Logic.{inl, inr, by_cases}
use mathlib.Core.Path.{◌≡◌, refl, ap, ap₂, sym, ◌∙◌}
use Rattle.letters.specs.declared.Letter.{Letter}
use Rattle.letters.specs.Lists.{first_of, passing}
use Rattle.pauli.specs.Statements.{StringOrder, Listed, FirstBy, ListsAreSearched}
use Rattle.pauli.proofs.EarlierOrder.{strings-discrete}

-- ---- along a list

module _ (test : List Letter → Bool) where
  found-along : {Before : StringOrder} (xs : List (List Letter)) → Pairwise Before xs → (s : List Letter)
      → first_of test xs ≡ Some s → FirstBy Before (λ t. Mem t xs) test s
  unfolding first_of
  found-along [] rise s e = absurd (none-some s e)
  found-along {Before} (x ∷ xs) rise s e = go (test x) refl (found-along xs (Pairwise.of_cons rise) s) e
    where
      go : (b : Bool) → test x ≡ b → (first_of test xs ≡ Some s → FirstBy Before (λ t. Mem t xs) test s)
          → ◌≡◌ {A = Option (List Letter)} (elim b [ true ↦ Some x | false ↦ first_of test xs ]) (Some s)
          → FirstBy Before (λ t. Mem t (x ∷ xs)) test s
      go true p rest e =
          let same : s ≡ x = sym (same_Some x s e) in
          record {
            meets = mem-cast same mem-cons_self;
            passes = ap test same ∙ p;
            first = λ t m passes. by_cases (strings-discrete t x) (λ q. inl (q ∙ sym same))
                λ other. inr (rw same (rel_of_Pairwise-cons rise (mem_of_ne_of_mem other m)));
          }
      go false p rest e =
          let r = rest e in
          record {
            meets = mem-cons_of_mem x r.meets;
            passes = r.passes;
            first = λ t m passes.
                r.first t (mem_of_ne_of_mem (λ q. true≢false (sym passes ∙ ap test q ∙ p)) m) passes;
          }

  missing-along : (xs : List (List Letter)) → first_of test xs ≡ None → (t : List Letter) → Mem t xs
      → test t ≡ true → ⊥
  unfolding first_of
  missing-along [] e t m passes = not-mem-nil m
  missing-along (x ∷ xs) e t m passes = go (test x) refl (λ f m'. missing-along xs f t m' passes) e
    where
      go : (b : Bool) → test x ≡ b → (first_of test xs ≡ None → Mem t xs → ⊥)
          → ◌≡◌ {A = Option (List Letter)} (elim b [ true ↦ Some x | false ↦ first_of test xs ]) None → ⊥
      go true p rest f = some-none x f
      go false p rest f = rest f (mem_of_ne_of_mem (λ q. true≢false (sym passes ∙ ap test q ∙ p)) m)

-- Two tests that agree on the list find the same.
same-along : (test other : List Letter → Bool) (xs : List (List Letter))
    → ((s : List Letter) → Mem s xs → test s ≡ other s) → first_of test xs ≡ first_of other xs
unfolding first_of
same-along test other [] same = refl
same-along test other (x ∷ xs) same =
    ap₂ (λ (t : Bool) (rest : Option (List Letter)). elim t [ true ↦ Some x | false ↦ rest ]) (same x mem-cons_self)
    (same-along test other xs (λ s m. same s (mem-cons_of_mem x m)))

-- ---- in a list in order

module _
    {Before : StringOrder} {Condition : List Letter → Type 0} (test : List Letter → Bool) (list : List (List Letter))
    (listed : Listed Before Condition list) where
  pub first-is-earliest : (s : List Letter) → first_of test list ≡ Some s → FirstBy Before Condition test s
  first-is-earliest s e =
      let f = found-along test list listed.increasing s e in
      record {
        meets = (listed.exactly s).0 f.meets;
        passes = f.passes;
        first = λ t meets. f.first t ((listed.exactly t).1 meets);
      }

  pub first-is-missing : first_of test list ≡ None → (t : List Letter) → Condition t → test t ≡ true → ⊥
  first-is-missing e t meets = missing-along test list e t ((listed.exactly t).1 meets)

  pub passing-is-listed : Listed Before (λ s. Condition s × (test s ≡ true)) (passing test list)
  unfolding passing
  passing-is-listed = record {
    exactly = λ s. Iff.trans (mem-filter _) (Iff.and (listed.exactly s) Iff.rfl);
    once = Pairwise.filter _ listed.once;
    increasing = Pairwise.filter _ listed.increasing;
  }

pub same-search : {Before : StringOrder} {Condition : List Letter → Type 0} (test other : List Letter → Bool)
    (list : List (List Letter))
    → Listed Before Condition list → ((s : List Letter) → Condition s → test s ≡ other s)
    → first_of test list ≡ first_of other list
same-search test other list listed same =
    same-along test other list (λ s m. same s ((listed.exactly s).0 m))

pub lists-are-searched : ListsAreSearched
lists-are-searched Before Condition list listed = record {
  found = λ test. first-is-earliest test list listed;
  missing = λ test. first-is-missing test list listed;
  filtered = λ test. passing-is-listed test list listed;
}
