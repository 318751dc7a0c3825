-- A program within a set of rows leaves the rows outside alone and depends on none of them, and its answers are as its ends say: by induction on programs.
use mathlib.Core.Path.{◌≡◌, refl, sym, ◌∙◌, subst}
use mathlib.Core.Bool.{Bool, true, false, not}
use mathlib.Core.List.{List, [], ◌∷◌}
use lib.Dec.{T}
use Rattle.lists.specs.Lists.{Each, none, both}
use Rattle.rows.specs.Program.{Program, return, get, put, provided◌then◌else◌, get_each, run_first, Rows, update, run}
use Rattle.rows.proofs.Update.{update_cases, update_other, update_agree}

-- `NamedIn S k v`: whatever the row v at key k names lies in S.
-- A program is within S and answers P where it touches rows of S alone, writes no row that names one outside, and returns only what P holds of.
-- Of a row that it reads it knows that it names none outside.
module _ {Key : Type 0} {Row : Key → Type 0} {A : Type 0} (NamedIn : (Key → Type 0) → (k : Key) → Row k → Type 0) (S : Key → Type 0) (P : A → Type 0) where
  unfoldable pub Within : Program Key Row A → Type 0
  Within (return a) = P a
  Within (get k f) = S k × ((v : Row k) → NamedIn S k v → Within (f v))
  Within (put k v p) = S k × NamedIn S k v × Within p
  Within (provided b then p else q) = (T b → Within p) × (T (not b) → Within q)

  pub in_return : (a : A) → P a → Within (return a)
  unfolding Within
  in_return a h = h

  pub in_get : (k : Key) (f : Row k → Program Key Row A) → S k → ((v : Row k) → NamedIn S k v → Within (f v)) → Within (get k f)
  unfolding Within
  in_get k f s h = (s, h)

  pub in_put : (k : Key) (v : Row k) (p : Program Key Row A) → S k → NamedIn S k v → Within p → Within (put k v p)
  unfolding Within
  in_put k v p s r h = (s, r, h)

  pub in_if : (b : Bool) (p q : Program Key Row A) → (T b → Within p) → (T (not b) → Within q) → Within (provided b then p else q)
  unfolding Within
  in_if b p q g h = (g, h)

  pub in_get_each : {N X : Type 0} (key : N → Key) (read : (n : N) → Row (key n) → X) (l : List N) (f : List X → Program Key Row A)
      → Each (λ n. S (key n)) l → ((xs : List X) → Within (f xs)) → Within (get_each key read l f)
  unfolding Within get_each
  in_get_each key read [] f none h = h []
  in_get_each key read (n ∷ ns) f (both s e) h = (s, λ row r. in_get_each key read ns (λ others. f (read n row ∷ others)) e (λ others. h (read n row ∷ others)))

-- The rows of S name nothing outside S.
abbrev pub Closed : {Key : Type 0} {Row : Key → Type 0} (NamedIn : (Key → Type 0) → (k : Key) → Row k → Type 0) (S : Key → Type 0) → Rows Row → Type 0
Closed {Key = Key} NamedIn S m = (k : Key) → S k → NamedIn S k (m k)

module _ {Key : Type 0} {Row : Key → Type 0} {A : Type 0} (NamedIn : (Key → Type 0) → (k : Key) → Row k → Type 0) (S : Key → Type 0) (P Q : A → Type 0) where
  pub within_map : ((a : A) → P a → Q a) → (p : Program Key Row A) → Within NamedIn S P p → Within NamedIn S Q p
  unfolding Within
  within_map g (return a) w = g a w
  within_map g (get k f) w = (w.0, λ v r. within_map g (f v) (w.1 v r))
  within_map g (put k v p) w = (w.0, w.1, within_map g p w.2)
  within_map g (provided b then p else q) w = (λ t. within_map g p (w.0 t), λ t. within_map g q (w.1 t))

-- Two programs in a row: the second is within S for every answer that the first may give.
module _ {Key : Type 0} {Row : Key → Type 0} {X A : Type 0} (NamedIn : (Key → Type 0) → (k : Key) → Row k → Type 0) (S : Key → Type 0) (P : X → Type 0) (Q : A → Type 0) where
  pub in_run_first : (p : Program Key Row X) (f : X → Program Key Row A) → Within NamedIn S P p → ((x : X) → P x → Within NamedIn S Q (f x)) → Within NamedIn S Q (run_first p f)
  unfolding Within run_first
  in_run_first (return x) f w h = h x w
  in_run_first (get k g) f w h = (w.0, λ v r. in_run_first (g v) f (w.1 v r) h)
  in_run_first (put k v p) f w h = (w.0, w.1, in_run_first p f w.2 h)
  in_run_first (provided b then p else q) f w h = (λ t. in_run_first p f (w.0 t) h, λ t. in_run_first q f (w.1 t) h)

module _ {Key : Type 0} {Row : Key → Type 0} (same_key : Discrete Key) (NamedIn : (Key → Type 0) → (k : Key) → Row k → Type 0) (S : Key → Type 0) where
  update_closed : (k : Key) (v : Row k) (m : Rows Row) → NamedIn S k v → Closed NamedIn S m → Closed NamedIn S (update same_key k v m)
  update_closed k v m r c j = update_cases same_key (λ i w. S i → NamedIn S i w) k v m (λ s. r) j (λ n. c j)

  module _ {A : Type 0} (P : A → Type 0) where
    pub keeps_closed : (p : Program Key Row A) (m : Rows Row) → Within NamedIn S P p → Closed NamedIn S m → Closed NamedIn S (run same_key p m).state
    unfolding run Within
    keeps_closed (return a) m w c = c
    keeps_closed (get k f) m w c = keeps_closed (f (m k)) m (w.1 (m k) (c k w.0)) c
    keeps_closed (put k v p) m w c = keeps_closed p (update same_key k v m) w.2 (update_closed k v m w.1 c)
    keeps_closed (provided true then p else q) m w c = keeps_closed p m (w.0 tt) c
    keeps_closed (provided false then p else q) m w c = keeps_closed q m (w.1 tt) c

    pub answer_is : (p : Program Key Row A) (m : Rows Row) → Within NamedIn S P p → Closed NamedIn S m → P (run same_key p m).answer
    unfolding run Within
    answer_is (return a) m w c = w
    answer_is (get k f) m w c = answer_is (f (m k)) m (w.1 (m k) (c k w.0)) c
    answer_is (put k v p) m w c = answer_is p (update same_key k v m) w.2 (update_closed k v m w.1 c)
    answer_is (provided true then p else q) m w c = answer_is p m (w.0 tt) c
    answer_is (provided false then p else q) m w c = answer_is q m (w.1 tt) c

    -- A row outside S is left as it was.
    pub outside : (p : Program Key Row A) (m : Rows Row) → Within NamedIn S P p → Closed NamedIn S m → (j : Key) → (S j → ⊥) → (run same_key p m).state j ≡ m j
    unfolding run Within
    outside (return a) m w c j n = refl
    outside (get k f) m w c j n = outside (f (m k)) m (w.1 (m k) (c k w.0)) c j n
    outside (put k v p) m w c j n =
        outside p (update same_key k v m) w.2 (update_closed k v m w.1 c) j n
        ∙ update_other same_key k v m j (λ e. n (subst S (sym e) w.0))
    outside (provided true then p else q) m w c j n = outside p m (w.0 tt) c j n
    outside (provided false then p else q) m w c j n = outside q m (w.1 tt) c j n

    -- From tables that agree on S: the same answer, and tables that agree on S.
    pub confined : (p : Program Key Row A) (m n : Rows Row) → Within NamedIn S P p → Closed NamedIn S m → ((k : Key) → S k → m k ≡ n k)
        → ((run same_key p m).answer ≡ (run same_key p n).answer) × ((k : Key) → S k → (run same_key p m).state k ≡ (run same_key p n).state k)
    unfolding run Within
    confined (return a) m n w c e = (refl, e)
    confined (get k f) m n w c e =
        subst
        (λ (v : Row k). ((run same_key (f (m k)) m).answer ≡ (run same_key (f v) n).answer) × ((j : Key) → S j → (run same_key (f (m k)) m).state j ≡ (run same_key (f v) n).state j))
        (e k w.0)
        (confined (f (m k)) m n (w.1 (m k) (c k w.0)) c e)
    confined (put k v p) m n w c e =
        confined p (update same_key k v m) (update same_key k v n) w.2 (update_closed k v m w.1 c) (λ j s. update_agree same_key k v m n j (e j s))
    confined (provided true then p else q) m n w c e = confined p m n (w.0 tt) c e
    confined (provided false then p else q) m n w c e = confined q m n (w.1 tt) c e
