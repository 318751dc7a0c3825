-- Programs of owners that have no row in common, in any merge: a footprint is a view.
use mathlib.Core.Path.{◌≡◌, refl, sym, ◌∙◌, ap, subst}
use mathlib.Core.List.{List}
use Rattle.lists.specs.Lists.{Each}
use Rattle.rows.specs.Program.{Program, Result, Rows, run, Configuration, step_of}
use Rattle.rows.specs.Merges.{SeparateAll}
use Rattle.rows.proofs.Footprint.{Within, Closed, keeps_closed, outside, confined}
use Rattle.rows.proofs.Local.{Local, separate}

-- `part k` is the owner whose part row k is. A call of owner i stays within the rows of that part. `step` is the program's step, for the calls that are somebody's.
module _ {Key E R A I : Type 0} {Row : Key → Type 0} (same_key : Discrete Key) (same_owner : Discrete I) (NamedIn : (Key → Type 0) → (k : Key) → Row k → Type 0)
    (program : E → R → Program Key Row A) (step : Configuration E Row → R → Result (Configuration E Row) A) (part : Key → I) (Of : I → R → Type 0)
    (P : A → Type 0) (within : (i : I) (e : E) (r : R) → Of i r → Within NamedIn (λ k. part k ≡ i) P (program e r))
    (is_step : (i : I) (s : Configuration E Row) (r : R) → Of i r → step s r ≡ step_of same_key program s r) where
  abbrev PartOf : I → Key → Type 0
  PartOf i k = part k ≡ i

  abbrev AllClosed : Configuration E Row → Type 0
  AllClosed s = (i : I) → Closed NamedIn (PartOf i) s.rows

  -- What owner i sees: the environment, and the rows of its part.
  pub record View (i : I) : Type 0 where
    environment : E
    rows : (k : Key) → PartOf i k → Row k

  abbrev view : (i : I) → Configuration E Row → View i
  view i s = record { environment = s.environment; rows = λ k h. s.rows k }

  same_view : (i : I) (e f : E) (m n : Rows Row) → e ≡ f → ((k : Key) → PartOf i k → m k ≡ n k) → view i (record { environment = e; rows = m }) ≡ view i (record { environment = f; rows = n })
  same_view i e f m n p h = λ x. record { environment = p x; rows = λ k g. h k g x }

  module _ (s : Configuration E Row) (i : I) (r : R) (c : AllClosed s) (o : Of i r) where
    frame : (j : I) → (i ≡ j → ⊥) → (k : Key) → PartOf j k → (step_of same_key program s r).state.rows k ≡ s.rows k
    unfolding step_of
    frame j n k h = outside same_key NamedIn (PartOf i) P (program s.environment r) s.rows (within i s.environment r o) (c i) k (λ g. n (sym g ∙ h))

    keeps : AllClosed (step_of same_key program s r).state
    unfolding step_of
    keeps j = elim (same_owner i j) [
      | yes p ↦ subst (λ h. Closed NamedIn (PartOf h) (step_of same_key program s r).state.rows) p
          (keeps_closed same_key NamedIn (PartOf i) P (program s.environment r) s.rows (within i s.environment r o) (c i))
      | no n ↦ λ k h. subst (NamedIn (PartOf j) k) (sym (frame j n k h)) (c j k h)
    ]

    own : (t : Configuration E Row) → view i s ≡ view i t
        → ((step_of same_key program s r).answer ≡ (step_of same_key program t r).answer) × (view i (step_of same_key program s r).state ≡ view i (step_of same_key program t r).state)
    unfolding step_of
    own t e =
        let a = subst
        (λ h. ((run same_key (program s.environment r) s.rows).answer ≡ (run same_key (program h r) t.rows).answer)
        × ((k : Key) → PartOf i k → (run same_key (program s.environment r) s.rows).state k ≡ (run same_key (program h r) t.rows).state k))
        (ap (λ v. v.environment) e)
        (confined same_key NamedIn (PartOf i) P (program s.environment r) s.rows t.rows (within i s.environment r o) (c i) (λ k h. ap (λ v. v.rows k h) e)) in
        (a.0, same_view i s.environment t.environment _ _ (ap (λ v. v.environment) e) a.1)

  local : Local step view (λ s. s.environment) AllClosed Of
  unfolding step_of
  local = record {
    keeps = λ s i r c o. subst (λ z. AllClosed z.state) (sym (is_step i s r o)) (keeps s i r c o);
    own = λ s t i r c o e. rw (is_step i s r o, is_step i t r o) (own s i r c o t e);
    others = λ s i r c o j n. rw (is_step i s r o) (same_view j _ _ _ _ refl (frame s i r c o j n));
    same_rest = λ s i r c o. rw (is_step i s r o) refl;
    whole = λ s t v e. λ x. record { environment = e x; rows = λ k. ap (λ w. w.rows k refl) (v (part k)) x };
  }

  pub separate_programs : (s : Configuration E Row) (lists : I → List R) → ((i : I) → Closed NamedIn (λ k. part k ≡ i) s.rows) → ((i : I) → Each (Of i) (lists i)) → SeparateAll same_owner step s lists
  separate_programs s lists c o = separate same_owner step view (λ s. s.environment) AllClosed Of local s lists c o
