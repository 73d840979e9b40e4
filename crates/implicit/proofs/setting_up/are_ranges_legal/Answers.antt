-- `setting_up::are_ranges_legal` meets its contract. Assumes nothing.
use Rattle.implicit.proofs.SetupLawsWriting.{ranges_legal_as}
use Rattle.implicit.proofs.setting_up.are_ranges_legal.Goals as goal

pub returns : goal.returns
returns c =
    let a = c.args in
    ranges_legal_as a.set a.ranges c.are_parameters_legal-fine.result c.are_parameters_legal-fine.ensures
