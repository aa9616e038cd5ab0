-- `tick::work` meets its contract: what the steps leave and answer makes `ticked` (`steps-ticked` of Steps); the arrivals leave room on the stack. Assumes nothing.
use Rattle.tick.proofs.Steps.{steps-ticked}
use Rattle.tick.proofs.work.Goals as goal

pub returns : goal.returns
returns c =
    steps-ticked _ _ _ _ _ _ _ _ _ _ _ c.arrive-met.ensures.after c.arrive-met.ensures.answers c.serve_and_settle-served.ensures.ports c.serve_and_settle-served.ensures.packets c.serve_and_settle-served.ensures.withdrawn c.serve_and_settle-served.ensures.after c.put_answers.ensures
