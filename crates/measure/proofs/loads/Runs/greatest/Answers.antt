use Rattle.std.proofs.Common.{ℕ, ◌+◌, ◌*◌, ◌<◌, mul_comm, arith}
use Rattle.std.proofs.lemmas.Nat.{mul-add-lt}
use Rattle.sets.proofs.Bits.{has_in}
use Rattle.measure.proofs.loads.Runs.greatest.Goals as goal

-- the place of a configuration is one of the places of its table
place-lt : (m s n k : ℕ) → m < n → s < k → m * k + s < n * k
place-lt m s n k hm hs = omega (arith, mul-add-lt m k s n hm hs, mul_comm n k)

pub offset_bounds-loads-base : goal.offset_bounds-loads-base
offset_bounds-loads-base g c =
    let k = (g.E.Environment.meaning c.args.self.now.environment.now).states in
    let s = has_in c.args.states k c.in-Some.state c.requires.states (c.loop-state.invariant c.in-Some.state c.in-Some.ensures.steps.0.here) in
    omega (arith, c.place-base.ensures, place-lt c.args.memory c.in-Some.state c.args.self.now.table.now.memories k c.requires.memory s, c.requires.room)

pub bounds-loads-base : goal.bounds-loads-base
bounds-loads-base g c =
    let k = (g.E.Environment.meaning c.args.self.now.environment.now).states in
    let s = has_in c.args.states k c.in-Some.state c.requires.states (c.loop-state.invariant c.in-Some.state c.in-Some.ensures.steps.0.here) in
    omega (arith, c.place-base.ensures, place-lt c.args.memory c.in-Some.state c.args.self.now.table.now.memories k c.requires.memory s, c.requires.room)
