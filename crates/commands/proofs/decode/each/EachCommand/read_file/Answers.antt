-- What the check asks of `read_file`.
use Rattle.std.proofs.Common.{◌≤◌, arith, length}
use Rattle.commands.proofs.decode.each.EachCommand.read_file.Goals as goal

pub returns-clause-report : goal.returns-clause-report
returns-clause-report c =
    let octets = c.in_ok-octets.octets in
    let within : length octets.items ≤ c.args.self.now.most_octets =
    omega (arith, octets.ok.0, c.len.ensures, c.in_ok-check_octets.ensures.within) in
    (octets.items, within, c.in_ok-report.ensures.report)
