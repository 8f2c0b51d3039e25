-- Shutdowns that leave the queue open.
use Rattle.std.proofs.Common.{◌≡◌, true, List, not, Result}
use Rattle.otel_sdk_base.specs.Export.{Calls}
use Rattle.otel_sdk_base.specs.Queue.{QueueState, FailedIfOpen, received_of}
use Rattle.otel_sdk_base.specs.declared.error.OTelSdkError.{OTelSdkError}
use Rattle.otel_sdk_base.proofs.shared.BatchLemmas.{keeps}

-- the received items stay the same
pub keeps_if_open : {X E : Type 0} (accepted : E → List (List X)) (calls : Calls E) (answer : Result (Unit {0}) OTelSdkError)
    (old new : QueueState X E) → FailedIfOpen accepted calls answer old new → not new.is_shut_down ≡ true
    → received_of accepted new ≡ received_of accepted old
keeps_if_open accepted calls answer old new f is_open = keeps accepted old new (f is_open).1
