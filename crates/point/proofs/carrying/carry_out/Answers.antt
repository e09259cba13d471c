use Rattle.point.specs.Chains.{command_actions, off_actions}
use Rattle.point.proofs.Linked.{linked}
use Rattle.point.proofs.carrying.carry_out.Goals as goal

pub returns : goal.returns
returns g c =
    let commands = c.args.commands in
    linked g.M.Machine.does (off_actions 0 commands.off.legs) (command_actions commands.then) c.args.machine.now c.switch_off.new.machine c.command_all.new.machine c.switch_off.ensures c.command_all.ensures
