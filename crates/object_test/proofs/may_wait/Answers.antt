-- `may_wait` is exact: by whether there is a sender its tests say what `MayWait` says.
use mathlib.Core.Logic.{inl, inr, ⊎_elim}
use Rattle.lists.proofs.Tests.{is_map, is_and, is_or, is_eqb}
use Rattle.object_test.proofs.may_wait.Goals as goal

pub returns-then-sender-ne0 : goal.returns-then-sender-ne0
returns-then-sender-ne0 c =
    is_map
    (λ t. record { senders = inr t; receivers = inl t.1 })
    (λ w. ⊎_elim (λ z. absurd (c.if-sender-ne0.true z)) (λ h. h) w.senders)
    (is_and (is_eqb _ _) (is_eqb _ _))

pub returns : goal.returns
returns c =
    is_map
    (λ t. record { senders = inl c.if-sender-ne0.false; receivers = t })
    (λ w. w.receivers)
    (is_or (is_eqb _ _) (is_eqb _ _))
