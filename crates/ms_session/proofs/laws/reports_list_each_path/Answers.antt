use Rattle.ms_jvm.specs.Programs.{program_of}
use Rattle.ms_session.proofs.Reports.{lists_each_path, thin_reportable}
use Rattle.ms_session.proofs.laws.reports_list_each_path.Goals as goal

pub returns : goal.returns
returns c = λ method depth thin. lists_each_path (program_of method) depth (thin_reportable method depth c.inputs_share_shadows.ensures c.thin_methods_end.ensures.ends thin)
