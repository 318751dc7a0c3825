-- A file's records are the same however its bytes come in blocks, and the numbers counted one by one are the line's.
use mathlib.Core.Path.{◌≡◌, refl, sym, ◌∙◌, ap, ap₂}
use mathlib.Core.Bool.{Bool, true, false, cond}
use mathlib.Core.List.{List, [], ◌∷◌, ◌++◌, flatten, append_assoc, append-nil}
use Prim.Native.Nat.{ℕ, zero, suc, ◌+◌, ◌*◌, ◌/◌, ◌<◌, ◌≤◌}
use native.Mathlib.Nat.{add-zero, zero-add}
use native.Mathlib.Omega.{arith}
use lib.Dec.{eqb}
use borrow.Author.Tests.{eqb-true, eqb-false, ne_eqb}
use lib.ListN.{length, take, drop, length-append, length-drop, drop_of_length-le}
use lib.Seq.{take-append-le, drop-append-le, drop-drop, take_all}
use Rattle.rows.specs.Runs.{end, answers}
use Rattle.rows.proofs.Runs.{end_append, answers_append}
use Rattle.model.specs.Rows.{Model}
use Rattle.recording.specs.Replay.{first_records, whole_records, records_of, rest_of, play, how_many, first_of, start, differing, line, replayed}
use Rattle.recording.specs.Blocks.{Numbers, counted, all_counted, Possible, Replaying, fed, begun, all_fed, CutAnywhere, AsWholeFile, AsWholeFiles}

-- ── Records ──

module _ (bytes : List ℕ) where
  pub no_record : length bytes < 32 → records_of bytes ≡ []
  unfolding records_of whole_records first_records
  no_record h = let none : length bytes / 32 ≡ 0 = omega arith in ap (λ n. first_records n bytes) none

  pub all_rest : length bytes < 32 → rest_of bytes ≡ bytes
  unfolding rest_of whole_records
  all_rest h = let none : length bytes / 32 ≡ 0 = omega arith in ap (λ n. drop (32 * n) bytes) none

  module _ (enough : 32 ≤ length bytes) where
    one_more : whole_records bytes ≡ suc (whole_records (drop 32 bytes))
    unfolding whole_records
    one_more = let shorter = length-drop 32 bytes in omega arith

    pub first_record : records_of bytes ≡ take 32 bytes ∷ records_of (drop 32 bytes)
    unfolding records_of first_records
    first_record = ap (λ n. first_records n bytes) one_more

    pub rest_behind : rest_of bytes ≡ rest_of (drop 32 bytes)
    unfolding rest_of
    rest_behind =
        let more = whole_records (drop 32 bytes) in
        let places : 32 * suc more ≡ 32 + 32 * more = omega arith in
        ap (λ n. drop (32 * n) bytes) one_more ∙ ap (λ n. drop n bytes) places ∙ sym (drop-drop (32 * more) 32 bytes)

-- A file cut in two: the records of the earlier part, then those of its rest with the later part.
record Cut (earlier later : List ℕ) : Type 0 where
  records_are : records_of (earlier ++ later) ≡ records_of earlier ++ records_of (rest_of earlier ++ later)
  rest_is : rest_of (earlier ++ later) ≡ rest_of (rest_of earlier ++ later)

few : (bytes : List ℕ) → whole_records bytes ≡ zero → length bytes < 32
unfolding whole_records
few bytes e = omega arith

many : (bytes : List ℕ) {n : ℕ} → whole_records bytes ≡ suc n → 32 ≤ length bytes
unfolding whole_records
many bytes e = omega arith

cut : (n : ℕ) (earlier later : List ℕ) → whole_records earlier ≡ n → Cut earlier later
cut zero earlier later e = record {
  records_are = rw (no_record earlier (few earlier e), all_rest earlier (few earlier e)) refl;
  rest_is = rw (all_rest earlier (few earlier e)) refl;
}
cut (suc n) earlier later e =
    let enough = many earlier e in
    let all : 32 ≤ length (earlier ++ later) = let sum = length-append earlier later in omega arith in
    let taken = take-append-le 32 earlier later enough in
    let left = drop-append-le 32 earlier later enough in
    let fewer : whole_records (drop 32 earlier) ≡ n = let more = one_more earlier enough in omega arith in
    let rest = cut n (drop 32 earlier) later fewer in
    record {
      records_are =
          first_record (earlier ++ later) all ∙ ap₂ (λ x l. x ∷ records_of l) taken left ∙ ap (λ l. take 32 earlier ∷ l) rest.records_are
          ∙ sym (ap₂ (λ l r. l ++ records_of (r ++ later)) (first_record earlier enough) (rest_behind earlier enough));
      rest_is =
          rest_behind (earlier ++ later) all ∙ ap rest_of left ∙ rest.rest_is ∙ sym (ap (λ r. rest_of (r ++ later)) (rest_behind earlier enough));
    }

-- ── Numbers ──

pub counted_append : (n : Numbers) (xs ys : List Bool) → all_counted n (xs ++ ys) ≡ all_counted (all_counted n xs) ys
unfolding all_counted
counted_append n [] ys = refl
counted_append n (x ∷ xs) ys = counted_append (counted n x) xs ys

-- The number of the first that differs, where k is its number among the records counted now.
abbrev later_first : ℕ → ℕ → ℕ → ℕ
later_first records first k = cond (eqb first 0) (cond (eqb k 0) 0 (records + k)) first

-- None before, none now; one before; the first record counted now; a later one.
first_kept : (records first : ℕ) → first ≡ later_first records first 0
first_kept records first = go (eqb first 0) refl
  where
    go : (b : Bool) → eqb first 0 ≡ b → first ≡ cond b 0 first
    go true e = eqb-true first 0 e
    go false e = refl

first_now : (records first k : ℕ) → later_first (suc records) (cond (eqb first 0) (suc records) first) k ≡ later_first records first 1
first_now records first k = go (eqb first 0) refl
  where
    go : (b : Bool) → eqb first 0 ≡ b → later_first (suc records) (cond b (suc records) first) k ≡ cond b (records + 1) first
    go true e = rw (ne_eqb (suc records) 0 (λ z. omega arith)) (omega arith)
    go false e = rw e refl

first_later : (records first k : ℕ) → later_first (suc records) first k ≡ later_first records first (cond (eqb k 0) 0 (suc k))
first_later records first k = ap (λ m. cond (eqb first 0) m first) (go (eqb k 0))
  where
    go : (b : Bool) → cond b 0 (suc records + k) ≡ cond (eqb (cond b 0 (suc k)) 0) 0 (records + cond b 0 (suc k))
    go true = refl
    go false = rw (ne_eqb (suc k) 0 (λ z. omega arith)) (omega arith)

all_counted_is : (n : Numbers) (l : List Bool)
    → all_counted n l ≡ record { records = n.records + length l; differ = n.differ + how_many l; first = later_first n.records n.first (first_of l) }
unfolding all_counted counted how_many first_of
all_counted_is n [] = λ i. record { records = sym (add-zero n.records) i; differ = sym (add-zero n.differ) i; first = first_kept n.records n.first i }
all_counted_is n (true ∷ l) =
    let records_are : suc n.records + length l ≡ n.records + suc (length l) = omega arith in
    let differ_are : suc n.differ + how_many l ≡ n.differ + suc (how_many l) = omega arith in
    all_counted_is (counted n true) l ∙ (λ i. record { records = records_are i; differ = differ_are i; first = first_now n.records n.first (first_of l) i })
all_counted_is n (false ∷ l) =
    let records_are : suc n.records + length l ≡ n.records + suc (length l) = omega arith in
    all_counted_is (counted n false) l ∙ (λ i. record { records = records_are i; differ = n.differ + how_many l; first = first_later n.records n.first (first_of l) i })

-- ── Blocks ──

pub cut_anywhere : CutAnywhere
unfolding fed
cut_anywhere x earlier later =
    let bytes = x.part ++ earlier in
    let made = cut (whole_records bytes) bytes later refl in
    let whole = ap records_of (sym (append_assoc x.part earlier later)) ∙ made.records_are in
    let kept = ap rest_of (sym (append_assoc x.part earlier later)) ∙ made.rest_is in
    let old = records_of bytes in
    let new = records_of (rest_of bytes ++ later) in
    let state_is = ap (end play x.state) whole ∙ end_append play x.state old new in
    let numbers_are =
    ap (λ l. all_counted x.numbers (answers play x.state l)) whole ∙ ap (all_counted x.numbers) (answers_append play x.state old new)
    ∙ counted_append x.numbers (answers play x.state old) (answers play (end play x.state old) new) in
    sym (λ i. record { state = state_is i; numbers = numbers_are i; part = kept i })

length_answers : (m : Model) (rs : List (List ℕ)) → length (answers play m rs) ≡ length rs
unfolding answers
length_answers m [] = refl
length_answers m (r ∷ rs) = ap suc (length_answers (play m r).state rs)

-- One block.
pub as_whole_file : (bytes : List ℕ) → AsWholeFile (fed begun bytes) bytes
unfolding fed line differing replayed
as_whole_file bytes =
    let found = differing bytes in
    let numbers = all_counted_is begun.numbers found in
    let records_are = ap (λ (n : Numbers). n.records) numbers ∙ zero-add (length found) ∙ length_answers start (records_of bytes) in
    let differ_is = ap (λ (n : Numbers). n.differ) numbers ∙ zero-add (how_many found) in
    let first_is = ap (λ (n : Numbers). n.first) numbers ∙ from_none (first_of found) in
    record {
      line_is = λ i. record { records = records_are i; differ = differ_is i; first = first_is i; tail = length (rest_of bytes) };
      state_is = refl;
    }
  where
    from_none : (k : ℕ) → cond (eqb k 0) 0 (0 + k) ≡ k
    from_none k = go (eqb k 0) refl
      where
        go : (b : Bool) → eqb k 0 ≡ b → cond b 0 (0 + k) ≡ k
        go true e = sym (eqb-true k 0 e)
        go false e = zero-add k

-- ── What the code does by turns ──

-- A block that makes no record whole is kept with the part.
pub fed_less : (x : Replaying) (block : List ℕ) → length (x.part ++ block) < 32 → fed x block ≡ record { state = x.state; numbers = x.numbers; part = x.part ++ block }
unfolding fed end answers all_counted
fed_less x block h = rw (no_record (x.part ++ block) h, all_rest (x.part ++ block) h) refl

-- One whole record, behind no part.
pub fed_one : (m : Model) (n : Numbers) (bytes : List ℕ) → length bytes ≡ 32
    → fed (record { state = m; numbers = n; part = [] }) bytes ≡ record { state = (play m bytes).state; numbers = counted n (play m bytes).answer; part = [] }
unfolding fed end answers all_counted
fed_one m n bytes e = rw (only, nothing_left) refl
  where
    none_behind : drop 32 bytes ≡ []
    none_behind = drop_of_length-le bytes {i = 32} (omega arith)

    enough : 32 ≤ length bytes
    enough = omega arith

    only : records_of bytes ≡ bytes ∷ []
    only =
        first_record bytes enough
        ∙ ap₂ (λ x l. x ∷ l) (take_all 32 bytes (omega arith)) (ap records_of none_behind ∙ no_record [] (omega arith))

    nothing_left : rest_of bytes ≡ []
    nothing_left = rest_behind bytes enough ∙ ap rest_of none_behind ∙ all_rest [] (omega arith)

pub records_fed : (x : Replaying) (block : List ℕ) → (fed x block).numbers.records ≡ x.numbers.records + length (x.part ++ block) / 32
unfolding fed records_of whole_records first_records
records_fed x block =
    let bytes = x.part ++ block in
    ap (λ (n : Numbers). n.records) (all_counted_is x.numbers (answers play x.state (records_of bytes)))
    ∙ ap (λ k. x.numbers.records + k) (length_answers x.state (records_of bytes) ∙ as_many (length bytes / 32) bytes)
  where
    as_many : (n : ℕ) (bytes : List ℕ) → length (first_records n bytes) ≡ n
    as_many zero bytes = refl
    as_many (suc n) bytes = ap suc (as_many n (drop 32 bytes))

-- Numbers that a replay can have stay so.
pub counted_possible : {n : Numbers} (differs : Bool) → Possible n → Possible (counted n differs)
unfolding counted
counted_possible false p = record {
  differ_within = let h = p.differ_within in omega arith;
  first_within = let h = p.first_within in omega arith;
  none_differs = p.none_differs;
  some_differs = p.some_differs;
}
counted_possible {n} true p = go (eqb n.first 0) refl
  where
    go : (b : Bool) → eqb n.first 0 ≡ b → Possible (record { records = suc n.records; differ = suc n.differ; first = cond b (suc n.records) n.first })
    go true e = record {
      differ_within = let h = p.differ_within in omega arith;
      first_within = omega arith;
      none_differs = λ z. omega arith;
      some_differs = λ z. omega arith;
    }
    go false e = record {
      differ_within = let h = p.differ_within in omega arith;
      first_within = let h = p.first_within in omega arith;
      none_differs = λ z. omega arith;
      some_differs = λ z. absurd (eqb-false n.first 0 e z);
    }

-- ── Any list of blocks ──

module _ (x : Replaying) where
  -- Behind bytes that were fed.
  all_behind : (bytes : List ℕ) (blocks : List (List ℕ)) → all_fed (fed x bytes) blocks ≡ fed x (bytes ++ flatten blocks)
  unfolding all_fed flatten
  all_behind bytes [] = ap (fed x) (sym (append-nil bytes))
  all_behind bytes (block ∷ blocks) = ap (λ y. all_fed y blocks) (cut_anywhere x bytes block) ∙ all_behind (bytes ++ block) blocks ∙ ap (fed x) (append_assoc bytes block (flatten blocks))

  pub all_as_one : length x.part < 32 → (blocks : List (List ℕ)) → all_fed x blocks ≡ fed x (flatten blocks)
  all_as_one h blocks = ap (λ y. all_fed y blocks) (sym nothing) ∙ all_behind [] blocks
    where
      nothing : fed x [] ≡ x
      nothing = let same = append-nil x.part in let size = ap length same in fed_less x [] (omega arith) ∙ (λ i. record { state = x.state; numbers = x.numbers; part = same i })

pub as_whole_files : AsWholeFiles
as_whole_files blocks = rw (all_as_one begun (omega arith) blocks) (as_whole_file (flatten blocks))
