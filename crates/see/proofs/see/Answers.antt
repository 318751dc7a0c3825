-- `see` is exact: the first loop keeps that the tasks passed are sound, the second that the objects passed are. What a sound record shows is `view`'s.
use mathlib.Core.Bool.{not}
use mathlib.Core.Path.{ap, ◌≡◌, refl}
use Prim.Native.Nat.{ℕ, ◌≤◌}
use native.Mathlib.Omega.{arith}
use Rattle.lists.proofs.Tests.{stopped, went_on}
use Rattle.model.specs.Sizes.{task_limit, queue_limit, mailbox_limit}
use Rattle.model.proofs.Tests.{to_within}
use Rattle.record.specs.declared.State.{State}
use Rattle.record.specs.Sound.{Sizes, Sound}
use Rattle.record.proofs.Parts.{TaskAt, sound_parts, parts_sound}
use Rattle.record.proofs.Testing.{Below, below_none, below_more, Walked, task_tested, tested_parts}
use Rattle.see.specs.Shown.{ObjectsSound}
use Rattle.see.proofs.see.Goals as goal

-- Each task and each object was tested.
all_sound : {s : State} {n : ℕ} → Walked s → Below (TaskAt s) 33 → Below (ObjectsSound s) n → 17 ≤ n → Sound s
all_sound {s} {n} w f g h = parts_sound s (tested_parts w f (record { each = λ i low high. g.each i low (omega arith) }))

pub chains_sound-requires : goal.chains_sound-requires
chains_sound-requires c =
    let typed = c.type_inv.state in
    (record { cells_count = typed.1.1.1.0.1.1.0.1.0.1; keys_fit = omega arith; heads_fit = omega arith }, record { cells_count = typed.1.1.1.1.0.1.1.0.1.0.1; keys_fit = omega arith; heads_fit = omega arith }, refl)

pub returns-then-not-chains_sound : goal.returns-then-not-chains_sound
returns-then-not-chains_sound c = λ S. stopped c.chains_sound.ensures.exact (ap not c.if-not-chains_sound.true) (S.readable.waiting, S.readable.messages)

pub loop-t-init : goal.loop-t-init
loop-t-init c =
    let typed = c.type_inv.state in
    let sizes : Sizes c.args.state.now = record {
      tasks = typed.1.0.1.0.1;
      queues = typed.1.1.0.1.0.1;
      mailboxes = typed.1.1.1.1.1.0.1.0.1;
      task_keys = typed.1.1.1.0.1.1.1.0.1.0.1;
      message_keys = typed.1.1.1.1.0.1.1.1.0.1.0.1;
    } in
    let tables = went_on c.chains_sound.ensures.exact (ap not c.if-not-chains_sound.false) in
    let walked : Walked c.args.state.now = record { sizes = sizes; counter = typed.0.1; waiting = tables.0; messages = tables.1 } in
    (walked, record { marks_are = c.chains_sound.ensures.standing_is (c.if-not-chains_sound.false) }, below_none)

pub returns-then-not-task_sound : goal.returns-then-not-task_sound
returns-then-not-task_sound c =
    let i = c.loop-t.invariant in
    let t = c.loop-t.t in
    let low = c.loop-t.auto.t in
    let h = c.loop-t-test.true in
    let tested = task_tested t i.1 c.key-priority.ensures c.task_sound.ensures in
    λ S. stopped tested (ap not c.if-not-task_sound.true) ((sound_parts _ S).tasks t (to_within 1 task_limit t low (omega arith)))

pub loop-t-preserved : goal.loop-t-preserved
loop-t-preserved c =
    let i = c.loop-t.invariant in
    let tested = task_tested c.loop-t.t i.1 c.key-priority.ensures c.task_sound.ensures in
    (i.0, i.1, below_more i.2 (went_on tested (ap not c.if-not-task_sound.false)))

pub loop-n-init : goal.loop-n-init
loop-n-init c =
    let i = c.loop-t.invariant in
    let h = c.loop-t-test.false in
    let all : c.loop-t.t ≡ 33 = let b = c.loop-t.auto.t-end (omega arith) in omega arith in
    (i.0, rw all at i.2, below_none)

pub returns-then-not-objects_sound : goal.returns-then-not-objects_sound
returns-then-not-objects_sound c =
    let s = c.args.state.now in
    let n = c.loop-n.n in
    let low = c.loop-n.auto.n in
    let h = c.loop-n-test.true in
    λ S. stopped {P = ObjectsSound s n} c.objects_sound.ensures (ap not c.if-not-objects_sound.true)
    ((sound_parts _ S).queues n (to_within 1 queue_limit n low (omega arith)), (sound_parts _ S).mailboxes n (to_within 1 mailbox_limit n low (omega arith)))

pub loop-n-preserved : goal.loop-n-preserved
loop-n-preserved c =
    let i = c.loop-n.invariant in
    (i.0, i.1, below_more i.2 (went_on {P = ObjectsSound c.args.state.now c.loop-n.n} c.objects_sound.ensures (ap not c.if-not-objects_sound.false)))

pub view-requires : goal.view-requires
view-requires c = all_sound c.loop-n.invariant.0 c.loop-n.invariant.1 c.loop-n.invariant.2 c.loop-n-test.false

pub returns : goal.returns
returns c = (all_sound c.loop-n.invariant.0 c.loop-n.invariant.1 c.loop-n.invariant.2 c.loop-n-test.false, c.view.ensures)
