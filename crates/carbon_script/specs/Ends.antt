-- The ends that stops are.
use Rattle.line_service.specs.declared.ends.Stop.{Stop}
use Rattle.line_service.specs.declared.ends.Stop.TheVariants as stop
use Rattle.carbon_script.specs.declared.serve.ScriptEnd.{ScriptEnd}
use Rattle.carbon_script.specs.declared.serve.ScriptEnd.TheVariants as end

abbrev pub end_of : Stop → ScriptEnd
end_of stop.WriteFault = end.WriteFault
end_of (stop.DiskFault class) = end.DiskFault class
end_of stop.Spent = end.Spent
end_of stop.NoMemory = end.NoMemory
