-- One chain: it has each number once, it is what `follow` reads, and a store puts a number in or takes one out. By induction on the chain.
use mathlib.Core.Path.{◌≡◌, refl, sym, ap, ◌∙◌, subst}
use mathlib.Core.List.Memᴰ
use mathlib.Core.List.Memᴰ.{head as here}
use mathlib.Core.List.Memᴰ.{tail as there}
use mathlib.Core.List.{List, [], ◌∷◌, Memᴰ as In}
use mathlib.Core.Logic.{◌≢◌, ⊎_elim}
use Prim.Native.Nat.{ℕ, zero, suc, ◌<◌, ◌≤◌}
use native.Mathlib.Omega.{arith}
use native.Mathlib.Nat.{le_of_suc-le-suc}
use lib.ListN.{length, get_or, set, length-set}
use lib.Seq.{get_or-set_same, get_or-set_other}
use Rattle.lists.specs.Lists.{Once, no_number, once, insert_at, remove_at}
use Rattle.lists.proofs.Members.{in_at}
use Rattle.lists.proofs.Once.{bounded}
use Rattle.chain.specs.Table.{cells, key_cells, from_number, follow, Chain, ends, goes_on}

-- A number of a chain is one of the table's.
pub in_range : {n : ℕ} {s : List ℕ} {cell : ℕ} {l : List ℕ} {x : ℕ} → Chain n s cell l → In x l → (0 < x) × (x ≤ n)
in_range {n = n} {s = s} (ends {cell = cell} _) x9 = elim x9 [ ]
in_range (goes_on e lo hi c) (here q) = omega arith
in_range (goes_on e lo hi c) (there i) = in_range c i

-- A cell has one chain.
pub same_chain : {n : ℕ} {s : List ℕ} {cell : ℕ} {l k : List ℕ} → Chain n s cell l → Chain n s cell k → l ≡ k
same_chain (ends e) (ends f) = refl
same_chain (ends e) (goes_on f lo hi d) = absurd (omega arith)
same_chain (goes_on e lo hi c) (ends f) = absurd (omega arith)
same_chain {n} {s} (goes_on {x = x} e lo hi c) (goes_on {x = y} {l = k} f lo' hi' d) =
    let q : y ≡ x = sym f ∙ e in
    cc (same_chain c (subst (λ (z : ℕ). Chain n s z k) q d))

-- Behind a number of a chain stands less.
behind : {n : ℕ} {s : List ℕ} {cell : ℕ} {l : List ℕ} {x : ℕ} → Chain n s cell l → In x l → (b : List ℕ) × Chain n s x b × (length b < length l)
behind {n = n} {s = s} (ends {cell = cell} _) x9 = elim x9 [ ]
behind {n} {s} (goes_on {l = l} e lo hi c) (here q) = (l, subst (λ (y : ℕ). Chain n s y l) (sym q) c, omega arith)
behind (goes_on e lo hi c) (there i) = let r = behind c i in (r.0, r.1, omega arith)

-- A chain doesn't come round.
pub no_loop : {n : ℕ} {s : List ℕ} {cell : ℕ} {l : List ℕ} → Chain n s cell l → In cell l → ⊥
no_loop c i =
    let r = behind c i in
    let e = ap length (same_chain c r.1) in
    omega arith

-- Where the cells of a chain hold the same, the same chain stands.
pub same_cells : {n : ℕ} {s s' : List ℕ} {cell cell' : ℕ} {l : List ℕ}
    → Chain n s cell l → get_or s' cell' 0 ≡ get_or s cell 0 → ((x : ℕ) → In x l → get_or s' x 0 ≡ get_or s x 0) → Chain n s' cell' l
same_cells (ends e) h o = ends (h ∙ e)
same_cells (goes_on {x = x} e lo hi c) h o = goes_on (h ∙ e) lo hi (same_cells c (o x (here refl)) (λ y i. o y (there i)))

-- Two stores leave the other cells alone.
pub two_stores : (s : List ℕ) (i j x v w : ℕ) → x ≢ i → x ≢ j → get_or (set (set s i v) j w) x 0 ≡ get_or s x 0
two_stores s i j x v w f g = get_or-set_other (set s i v) j x w 0 g ∙ get_or-set_other s i x v 0 f

-- The cell that a walk has reached after i numbers: the head's for 0, then the i-th number's own.
abbrev pub cell_at : ℕ → List ℕ → ℕ → ℕ
cell_at head l i = get_or (head ∷ l) i 0

-- t is put in behind the cell reached after i numbers.
pub insert_chain : {n : ℕ} {s : List ℕ} {cell : ℕ} {l : List ℕ} (i t : ℕ) → Chain n s cell l → length s ≡ cells → n < key_cells → cell < cells
    → i ≤ length l → 0 < t → t ≤ n → cell ≢ t → (In t l → ⊥)
    → Chain n (set (set s t (get_or s (cell_at cell l i) 0)) (cell_at cell l i) t) cell (insert_at i t l)
unfolding insert_at
insert_chain {n} {s} {cell} {l} zero t c z k f h lo hi a o =
    let s1 : List ℕ = set s t (get_or s cell 0) in
    goes_on (get_or-set_same s1 cell t 0 (rw (length-set, z) f)) lo hi
    (same_cells c (get_or-set_other s1 cell t t 0 (λ e. a (sym e)) ∙ get_or-set_same s t (get_or s cell 0) 0 (omega arith))
    (λ x i. two_stores s t cell x (get_or s cell 0) t (λ e. o (Memᴰ.cast (sym e) i)) (λ e. no_loop c (Memᴰ.cast (sym e) i))))
insert_chain (suc i) t (ends e) z k f h lo hi a o = absurd (omega arith)
insert_chain {n} {s} {cell} (suc i) t (goes_on {x = x} {l = l} e lo' hi' c) z k f h lo hi a o =
    let p : ℕ = cell_at x l i in
    goes_on (two_stores s t p cell (get_or s p 0) t a (λ b. no_loop (goes_on e lo' hi' c) (Memᴰ.cast b (in_at 0 (x ∷ l) i h))) ∙ e) lo' hi'
    (insert_chain i t c z k (omega arith) (le_of_suc-le-suc h) lo hi (λ b. o (here (sym b))) (λ b. o (there b)))

-- The number that has i ahead of it is taken out.
pub remove_chain : {n : ℕ} {s : List ℕ} {cell : ℕ} {l : List ℕ} (i : ℕ) → Chain n s cell l → length s ≡ cells → n < key_cells → cell < cells → i < length l
    → Chain n (set s (cell_at cell l i) (get_or s (get_or l i 0) 0)) cell (remove_at i l)
unfolding remove_at
remove_chain i (ends e) z k f h = absurd (omega arith)
remove_chain {s = s} {cell} zero (goes_on {x = x} {l = l} e lo hi c) z k f h =
    same_cells c (get_or-set_same s cell (get_or s x 0) 0 (rw z f))
    (λ y i. get_or-set_other s cell y (get_or s x 0) 0 (λ b. no_loop (goes_on e lo hi c) (Memᴰ.cast (sym b) (there i))))
remove_chain {s = s} {cell} (suc i) (goes_on {x = x} {l = l} e lo hi c) z k f h =
    goes_on (get_or-set_other s (cell_at x l i) cell (get_or s (get_or l i 0) 0) 0
    (λ b. no_loop (goes_on e lo hi c) (Memᴰ.cast b (in_at 0 (x ∷ l) i (omega arith)))) ∙ e) lo hi
    (remove_chain i c z k (omega arith) (le_of_suc-le-suc h))

-- A chain has each number once.
pub chain_once : {n : ℕ} {s : List ℕ} {cell : ℕ} {l : List ℕ} → Chain n s cell l → Once l
chain_once (ends e) = no_number
chain_once (goes_on e lo hi c) = once (no_loop c) (chain_once c)

-- A chain has at most as many numbers as the table.
pub short : {n : ℕ} {s : List ℕ} {cell : ℕ} {l : List ℕ} → Chain n s cell l → length l ≤ n
short {n} {l = l} c =
    let o = once {x = 0} (λ i. let r = in_range c i in omega arith) (chain_once c) in
    let b = bounded (suc n) o (λ x i. ⊎_elim (λ e. omega arith) (λ j. let r = in_range c j in omega arith) (Memᴰ.cases_cons i)) in
    omega arith

from_positive : (x : ℕ) (l : List ℕ) → 0 < x → from_number x l ≡ x ∷ l
from_positive zero l h = absurd (omega arith)
from_positive (suc x) l h = refl

follow_is : {n : ℕ} {s : List ℕ} {cell : ℕ} {l : List ℕ} (left : ℕ) → Chain n s cell l → length l ≤ left → follow left s cell ≡ l
unfolding follow
follow_is zero (ends e) h = refl
follow_is zero (goes_on e lo hi c) h = absurd (omega arith)
follow_is (suc left) (ends e) h = rw e
follow_is (suc left) (goes_on {x = x} {l = l} e lo hi c) h = rw (e, follow_is left c (le_of_suc-le-suc h)) (from_positive x l lo)

-- The chain is what is read.
pub reads : {n : ℕ} {s : List ℕ} {cell : ℕ} {l : List ℕ} → Chain n s cell l → follow n s cell ≡ l
reads {n} c = follow_is n c (short c)

-- A cell that holds 0 ends its chain.
pub at_end : {n : ℕ} {s : List ℕ} {cell : ℕ} {l : List ℕ} → Chain n s cell l → get_or s cell 0 ≡ 0 → l ≡ []
at_end (ends e) z = refl
at_end (goes_on e lo hi c) z = absurd (omega arith)

-- Any other leads on.
pub record LeadsTo (n : ℕ) (s l : List ℕ) (x : ℕ) : Type 0 where
  pub in_table : x ≤ n
  pub chain : Chain n s x (follow n s x)
  pub split : l ≡ x ∷ follow n s x

pub leads : {n : ℕ} {s : List ℕ} {cell : ℕ} {l : List ℕ} {x : ℕ} → Chain n s cell l → get_or s cell 0 ≡ x → x ≢ 0 → LeadsTo n s l x
leads (ends e) g f = absurd (f (sym g ∙ e))
leads {n} {s} {x = x} (goes_on {x = y} {l = l} e lo hi c) g f =
    let q : y ≡ x = sym e ∙ g in
    let d : Chain n s x l = subst (λ (z : ℕ). Chain n s z l) q c in
    record { in_table = omega arith; chain = rw (reads d) d; split = cc (reads d) }

-- A cell holds the first number behind it.
pub holds_first : {n : ℕ} {s : List ℕ} {cell : ℕ} {l : List ℕ} → Chain n s cell l → get_or s cell 0 ≡ get_or l 0 0
holds_first (ends e) = e
holds_first (goes_on e lo hi c) = e

-- The cell reached after i numbers holds the number that has i ahead of it.
pub holds_next : {n : ℕ} {s : List ℕ} {cell : ℕ} {l : List ℕ} (i : ℕ) → Chain n s cell l → i ≤ length l → get_or s (cell_at cell l i) 0 ≡ get_or l i 0
holds_next zero c h = holds_first c
holds_next (suc i) (ends e) h = absurd (omega arith)
holds_next (suc i) (goes_on e lo hi c) h = holds_next i c (le_of_suc-le-suc h)
