-- `engine::work` meets its contract: what the steps leave and answer makes `ticked` (`steps-ticked` of Steps); the arrivals leave room on the stack, and every part leaves the lengths. Assumes nothing.
use Rattle.engine.proofs.Steps.{steps-ticked}
use Rattle.engine.proofs.work.Goals as goal

pub returns : goal.returns
returns c =
    steps-ticked _ _ _ _ _ c.args.waiting _ _ _ _ _ _ _ _ _ _ _ c.free_count-n.ensures c.arrive-met.ensures.after c.arrive-met.ensures.answers c.receive.ensures c.grants-grants.ensures.choices
    c.sent.ensures c.withdraw.ensures c.carry_out-served.ensures.ports c.carry_out-served.ensures.packets c.carry_out-served.ensures.withdrawn c.carry_out-served.ensures.after c.move_over.ensures c.put_answers.ensures
