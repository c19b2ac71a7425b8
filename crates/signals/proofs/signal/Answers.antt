use mathlib.Core.Path.{refl}
use Rattle.component.specs.Kind.{port_use}
use Rattle.signals.proofs.signal.Goals as goal

pub returns-in-ForkOfferB-clause-is : goal.returns-in-ForkOfferB-clause-is
unfolding port_use
returns-in-ForkOfferB-clause-is c = rw c.in-ForkOfferB.is (c.fork_offer.ensures _ _ _ refl)

pub returns-in-ForkOfferC-clause-is : goal.returns-in-ForkOfferC-clause-is
unfolding port_use
returns-in-ForkOfferC-clause-is c = rw c.in-ForkOfferC.is (c.fork_offer-in-ForkOfferC.ensures _ _ _ refl)

pub returns-in-JoinTakeA-clause-is : goal.returns-in-JoinTakeA-clause-is
unfolding port_use
returns-in-JoinTakeA-clause-is c = rw c.in-JoinTakeA.is (c.join_take.ensures _ _ _ _ refl)

pub returns-in-JoinTakeB-clause-is : goal.returns-in-JoinTakeB-clause-is
unfolding port_use
returns-in-JoinTakeB-clause-is c = rw c.in-JoinTakeB.is (c.join_take-in-JoinTakeB.ensures _ _ _ _ refl)

pub returns-in-JoinOffer-clause-is : goal.returns-in-JoinOffer-clause-is
unfolding port_use
returns-in-JoinOffer-clause-is c = rw c.in-JoinOffer.is (c.join_offer.ensures _ _ _ _)

pub returns-in-SwitchTake-clause-is : goal.returns-in-SwitchTake-clause-is
unfolding port_use
returns-in-SwitchTake-clause-is c = rw c.in-SwitchTake.is (c.switch_take.ensures _ _ _)

pub returns-in-SwitchOfferB-clause-is : goal.returns-in-SwitchOfferB-clause-is
unfolding port_use
returns-in-SwitchOfferB-clause-is c = rw c.in-SwitchOfferB.is (c.switch_offer.ensures _ _ _ _ _ refl)

pub returns-in-SwitchOfferC-clause-is : goal.returns-in-SwitchOfferC-clause-is
unfolding port_use
returns-in-SwitchOfferC-clause-is c = rw c.in-SwitchOfferC.is (c.switch_offer-in-SwitchOfferC.ensures _ _ _ _ _ refl)

pub returns-in-MergeTakeA-clause-is : goal.returns-in-MergeTakeA-clause-is
unfolding port_use
returns-in-MergeTakeA-clause-is c = rw c.in-MergeTakeA.is (c.merge_take.ensures _ _ refl)

pub returns-in-MergeTakeB-clause-is : goal.returns-in-MergeTakeB-clause-is
unfolding port_use
returns-in-MergeTakeB-clause-is c = rw c.in-MergeTakeB.is (c.merge_take-in-MergeTakeB.ensures _ _ refl)

pub returns-in-MergeOffer-clause-is : goal.returns-in-MergeOffer-clause-is
unfolding port_use
returns-in-MergeOffer-clause-is c = rw c.in-MergeOffer.is (c.merge_offer.ensures _ _ _)
