use Rattle.route_client.proofs.NearVerdictLaws.{walked_of, refused_measure}
use Rattle.route_client.proofs.walking.walk.Goals as goal

pub returns-in-Err : goal.returns-in-Err
returns-in-Err c = refused_measure c.args.nodes.now c.args.query c.in-Err.error c.in-Err.ensures

pub returns-in_ok-marks-in-Ok : goal.returns-in_ok-marks-in-Ok
returns-in_ok-marks-in-Ok c = walked_of c.args.nodes.now c.args.query c.in-Ok.labels c.in_ok-marks-in-Ok.marks c.in-Ok.ensures c.in_ok-marks-in-Ok.ensures
