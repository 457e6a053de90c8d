-- How a run ends that has served frames.
use Rattle.std.specs.declared.result.Result.{Result}
use Rattle.std.specs.declared.result.Result.TheVariants.{Ok, Err}
use Rattle.route_service.specs.declared.serving.ServeError.{ServeError}
use Rattle.route_service.specs.declared.serving.ServeError.TheVariants as serve
use Rattle.command_files.specs.declared.fault.Fault.{Fault}
use Rattle.command_files.specs.declared.fault.Fault.TheVariants.{TruncatedFrame, FrameTooLong, Source, Sink, Memory, TooManyFrames}
use Rattle.command_files.specs.declared.ended.Conclusion.{Conclusion}
use Rattle.command_files.specs.declared.ended.Conclusion.TheVariants.{Done}

abbrev pub ended_serving : Result (Unit {0}) ServeError → Result Conclusion Fault
ended_serving (Ok done) = Ok Done
ended_serving (Err serve.FrameTooLong) = Err FrameTooLong
ended_serving (Err serve.TruncatedFrame) = Err TruncatedFrame
ended_serving (Err serve.TooManyFrames) = Err TooManyFrames
ended_serving (Err serve.Source) = Err Source
ended_serving (Err serve.Sink) = Err Sink
ended_serving (Err (serve.Memory none)) = Err (Memory none)
