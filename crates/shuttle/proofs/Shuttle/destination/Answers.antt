use Rattle.std.proofs.Common.{◌≡◌, ap, ◌∙◌}
use Rattle.shuttle.specs.Shuttles.{bit_of, arrival_at}
use Rattle.shuttle.specs.Steps.{moved, unmoved, leads, arrival_in, bit_back}
use Rattle.shuttle.proofs.Shuttle.destination.Goals as goal

pub returns-in_err-place : goal.returns-in_err-place
returns-in_err-place c =
    let n = c.args.self.now.places in
    let s = c.args.state in
    let a = c.args.action in
    let at = c.in_ok-spot.ensures in
    rw c.from_residual-in_err-place.ensures (leads n a s at.0 ∙ unmoved n a s (rw at.1.place_is at c.in_err-place.ensures))

pub returns : goal.returns
returns c =
    let n = c.args.self.now.places in
    let s = c.args.state in
    let a = c.args.action in
    let at = c.in_ok-spot.ensures in
    let step = rw at.1.place_is at c.in_ok-place.ensures in
    let p = c.in_ok-place.place in
    let to : c.arrival.result ≡ arrival_at n p (bit_of s) = c.arrival.ensures ∙ ap (arrival_at n p) (rw at.1.bit_is (bit_back s)) in
    rw to (arrival_in n s p at.0 step.0, leads n a s at.0 ∙ moved n a s p step.0 step.1)
