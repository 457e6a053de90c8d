mod FitSteps
mod OneSight
mod SignerSteps
