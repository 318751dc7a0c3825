-- A stored code's number: it is document 01's, it is read as the code, and only four numbers are read as a code that a wait ends with. By the cases of the codes.
use mathlib.Core.Path.{◌≡◌, refl, sym, subst}
use mathlib.Core.Bool.{Bool, true, false, cond, ◌||◌}
use mathlib.Core.List.{[], ◌∷◌}
use mathlib.Core.Logic.{◌⊎◌, inl, inr, ⊎_elim}
use Prim.Native.Nat.{ℕ}
use lib.Dec.{T, eqb}
use Rattle.lists.specs.Lists.{one_of}
use Rattle.lists.specs.Tests.{Whether}
use Rattle.lists.proofs.Tests.{is_map, is_eqb, is_or, passed_test}
use Rattle.model.specs.WellFormed.{ends_a_wait}
use Rattle.model.specs.declared.Code.TheVariants.{Ok, Sys, Par, Id, Ctx, Iluse, Obj, Noexs, Qovr, Rlwai, Tmout, Dlt}
use Rattle.parts.specs.Tasks.{read_code, code_byte, CodeBytes}

pub code_bytes : CodeBytes
unfolding read_code
code_bytes Ok = record { is_number = refl; is_read = refl }
code_bytes Sys = record { is_number = refl; is_read = refl }
code_bytes Par = record { is_number = refl; is_read = refl }
code_bytes Id = record { is_number = refl; is_read = refl }
code_bytes Ctx = record { is_number = refl; is_read = refl }
code_bytes Iluse = record { is_number = refl; is_read = refl }
code_bytes Obj = record { is_number = refl; is_read = refl }
code_bytes Noexs = record { is_number = refl; is_read = refl }
code_bytes Qovr = record { is_number = refl; is_read = refl }
code_bytes Rlwai = record { is_number = refl; is_read = refl }
code_bytes Tmout = record { is_number = refl; is_read = refl }
code_bytes Dlt = record { is_number = refl; is_read = refl }

-- The codes that may be stored, found in the chain of tests by which a number is read.
stored_code : (ok par id ctx iluse obj noexs qovr rlwai tmout dlt : Bool)
    → T (ends_a_wait (cond ok Ok (cond par Par (cond id Id (cond ctx Ctx (cond iluse Iluse (cond obj Obj (cond noexs Noexs (cond qovr Qovr (cond rlwai Rlwai (cond tmout Tmout (cond dlt Dlt Sys))))))))))))
    → T (ok || (rlwai || (tmout || (dlt || false))))
stored_code true par id ctx iluse obj noexs qovr rlwai tmout dlt t = tt
stored_code false true id ctx iluse obj noexs qovr rlwai tmout dlt t = absurd t
stored_code false false true ctx iluse obj noexs qovr rlwai tmout dlt t = absurd t
stored_code false false false true iluse obj noexs qovr rlwai tmout dlt t = absurd t
stored_code false false false false true obj noexs qovr rlwai tmout dlt t = absurd t
stored_code false false false false false true noexs qovr rlwai tmout dlt t = absurd t
stored_code false false false false false false true qovr rlwai tmout dlt t = absurd t
stored_code false false false false false false false true rlwai tmout dlt t = absurd t
stored_code false false false false false false false false true tmout dlt t = tt
stored_code false false false false false false false false false true dlt t = tt
stored_code false false false false false false false false false false true t = tt
stored_code false false false false false false false false false false false t = absurd t

pub stored_number : (n : ℕ) → T (ends_a_wait (read_code n)) → T (one_of n (0 ∷ 49 ∷ 50 ∷ 51 ∷ []))
unfolding read_code one_of
stored_number n t =
    stored_code (eqb n 0) (eqb n 17) (eqb n 18) (eqb n 25) (eqb n 28) (eqb n 41) (eqb n 42) (eqb n 43) (eqb n 49) (eqb n 50) (eqb n 51) t

-- So the number is one of four.
stored_numbers : (n : ℕ) → T (ends_a_wait (read_code n)) → ((n ≡ 0 ⊎ n ≡ 49) ⊎ n ≡ 50) ⊎ n ≡ 51
unfolding one_of
stored_numbers n t = ⊎_elim (λ s. inl (⊎_elim (λ u. inl (⊎_elim (λ v. inl (is 0 v)) (λ v. inr (is 49 v)) u)) (λ u. inr (is 50 u)) s)) (λ s. inr (is 51 s))
    (split (eqb n 0) (eqb n 49) (eqb n 50) (eqb n 51) (stored_number n t))
  where
    split : (a b c d : Bool) → T (a || (b || (c || (d || false)))) → ((T a ⊎ T b) ⊎ T c) ⊎ T d
    split true b c d t = inl (inl (inl tt))
    split false true c d t = inl (inl (inr tt))
    split false false true d t = inl (inr tt)
    split false false false true t = inr tt
    split false false false false t = absurd t

    is : (k : ℕ) → T (eqb n k) → n ≡ k
    is k = passed_test (is_eqb n k)

-- The numbers of the codes that a wait ends with.
pub ends_by_number : (n : ℕ) → Whether (T (ends_a_wait (read_code n))) (((eqb n 0 || eqb n 49) || eqb n 50) || eqb n 51)
unfolding read_code
ends_by_number n =
    is_map (⊎_elim (⊎_elim (⊎_elim (one 0 tt) (one 49 tt)) (one 50 tt)) (one 51 tt)) (stored_numbers n)
    (is_or (is_or (is_or (is_eqb n 0) (is_eqb n 49)) (is_eqb n 50)) (is_eqb n 51))
  where
    one : (k : ℕ) → T (ends_a_wait (read_code k)) → n ≡ k → T (ends_a_wait (read_code n))
    one k t e = subst (λ j. T (ends_a_wait (read_code j))) (sym e) t

-- Such a number is the one of the code that it is read as.
pub read_again : (n : ℕ) → T (ends_a_wait (read_code n)) → code_byte (read_code n) ≡ n
unfolding read_code
read_again n t = ⊎_elim (⊎_elim (⊎_elim (back 0 refl) (back 49 refl)) (back 50 refl)) (back 51 refl) (stored_numbers n t)
  where
    back : (k : ℕ) → code_byte (read_code k) ≡ k → n ≡ k → code_byte (read_code n) ≡ n
    back k e f = subst (λ m. code_byte (read_code m) ≡ m) (sym f) e
