mod ElementLaws
mod StepLaws
