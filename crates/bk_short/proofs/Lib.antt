mod CopiedPlaces
mod ShortExamples
